-- The parts of a text between marks, and the items that they are.
use Rattle.std.proofs.Common.{◌≡◌, ◌∙◌, ℕ, Bool, false, eqb, cond, List, [], ◌∷◌, ◌++◌, map, refl, sym, ap, eq-eqb}
use Rattle.std.specs.List.{flat_map}
use Rattle.swc_ecma_codegen_source_maps.specs.Mappings.{begun_by, items, line_end, line_items, parts, segment}
use Rattle.swc_ecma_codegen_source_maps.specs.Pieces.{IsUnmarked}

-- a mark isn't among these
abbrev IsFree : ℕ → List ℕ → Type 0
IsFree mark [] = Unit {0}
IsFree mark (c ∷ cs) = (eqb c mark ≡ false) × IsFree mark cs

no_comma : (a : List ℕ) → IsUnmarked a → IsFree 44 a
no_comma [] u = tt
no_comma (c ∷ cs) u = (u.0, no_comma cs u.2)

no_semicolon : (a : List ℕ) → IsUnmarked a → IsFree 59 a
no_semicolon [] u = tt
no_semicolon (c ∷ cs) u = (u.1, no_semicolon cs u.2)

one_part : (mark : ℕ) (a : List ℕ) → IsFree mark a → parts mark a ≡ a ∷ []
one_part mark [] u = refl
one_part mark (c ∷ cs) u = ap (λ b. cond b ([] ∷ parts mark cs) (begun_by c (parts mark cs))) u.0 ∙ ap (begun_by c) (one_part mark cs u.1)

-- a mark ends a part
part_ends : (mark : ℕ) (a text : List ℕ) → IsFree mark a → parts mark (a ++ (mark ∷ text)) ≡ a ∷ parts mark text
part_ends mark [] text u = ap (λ b. cond b ([] ∷ parts mark text) (begun_by mark (parts mark text))) (eq-eqb mark mark refl)
part_ends mark (c ∷ cs) text u =
    ap (λ b. cond b ([] ∷ parts mark (cs ++ (mark ∷ text))) (begun_by c (parts mark (cs ++ (mark ∷ text))))) u.0
    ∙ ap (begun_by c) (part_ends mark cs text u.1)

-- characters before the first of some parts
abbrev onto : List ℕ → List (List ℕ) → List (List ℕ)
onto [] ps = ps
onto (c ∷ cs) ps = begun_by c (onto cs ps)

goes_into : (mark : ℕ) (a text : List ℕ) → IsFree mark a → parts mark (a ++ text) ≡ onto a (parts mark text)
goes_into mark [] text u = refl
goes_into mark (c ∷ cs) text u =
    ap (λ b. cond b ([] ∷ parts mark (cs ++ text)) (begun_by c (parts mark (cs ++ text)))) u.0
    ∙ ap (begun_by c) (goes_into mark cs text u.1)

onto_part : (a part : List ℕ) (ps : List (List ℕ)) → onto a (part ∷ ps) ≡ (a ++ part) ∷ ps
onto_part [] part ps = refl
onto_part (c ∷ cs) part ps = ap (begun_by c) (onto_part cs part ps)

-- ---- items

pub segment_alone : (c : ℕ) (cs : List ℕ) → IsUnmarked (c ∷ cs) → items (c ∷ cs) ≡ segment (c ∷ cs) ∷ (line_end ∷ [])
segment_alone c cs u =
    ap (flat_map line_items) (one_part 59 (c ∷ cs) (no_semicolon (c ∷ cs) u))
    ∙ ap (λ ps. (map segment ps ++ (line_end ∷ [])) ++ []) (one_part 44 (c ∷ cs) (no_comma (c ∷ cs) u))

pub segment_then_line : (c : ℕ) (cs text : List ℕ) → IsUnmarked (c ∷ cs) → items ((c ∷ cs) ++ (59 ∷ text)) ≡ segment (c ∷ cs) ∷ (line_end ∷ items text)
segment_then_line c cs text u =
    ap (flat_map line_items) (part_ends 59 (c ∷ cs) text (no_semicolon (c ∷ cs) u))
    ∙ ap (λ ps. (map segment ps ++ (line_end ∷ [])) ++ items text) (one_part 44 (c ∷ cs) (no_comma (c ∷ cs) u))

comma_within : (c d : ℕ) (cs part : List ℕ) (ps : List (List ℕ)) → IsUnmarked (c ∷ cs) → flat_map line_items (onto (c ∷ cs) ((44 ∷ d ∷ part) ∷ ps)) ≡ segment (c ∷ cs) ∷ flat_map line_items ((d ∷ part) ∷ ps)
comma_within c d cs part ps u =
    ap (flat_map line_items) (onto_part (c ∷ cs) (44 ∷ d ∷ part) ps)
    ∙ ap (λ qs. (map segment qs ++ (line_end ∷ [])) ++ flat_map line_items ps) (part_ends 44 (c ∷ cs) (d ∷ part) (no_comma (c ∷ cs) u))

comma_before : (c d : ℕ) (cs : List ℕ) (ps : List (List ℕ)) → IsUnmarked (c ∷ cs) → flat_map line_items (onto (c ∷ cs) (begun_by 44 (begun_by d ps))) ≡ segment (c ∷ cs) ∷ flat_map line_items (begun_by d ps)
comma_before c d cs [] u = comma_within c d cs [] [] u
comma_before c d cs (part ∷ ps) u = comma_within c d cs part ps u

pub segment_then_comma : (c d : ℕ) (cs text : List ℕ) → IsUnmarked (c ∷ cs) → eqb d 59 ≡ false → items ((c ∷ cs) ++ (44 ∷ d ∷ text)) ≡ segment (c ∷ cs) ∷ items (d ∷ text)
segment_then_comma c d cs text u n =
    let whole : Bool → List (List ℕ) = λ b. cond b ([] ∷ parts 59 text) (begun_by d (parts 59 text)) in
    ap (flat_map line_items) (goes_into 59 (c ∷ cs) (44 ∷ d ∷ text) (no_semicolon (c ∷ cs) u))
    ∙ (ap (λ b. flat_map line_items (onto (c ∷ cs) (begun_by 44 (whole b)))) n
    ∙ (comma_before c d cs (parts 59 text) u
    ∙ ap (λ b. segment (c ∷ cs) ∷ flat_map line_items (whole b)) (sym n)))
