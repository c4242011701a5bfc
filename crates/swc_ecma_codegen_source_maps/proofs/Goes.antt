-- How a text of mappings goes on.
use Rattle.std.proofs.Common.{◌≡◌, ◌∙◌, ℕ, ◌+◌, ◌<◌, ◌≤◌, Bool, true, false, List, [], ◌∷◌, ◌++◌, length, drop, get_or, Option, Some, refl, sym, ap, subst, arith, append_assoc, append-nil}
use Rattle.std.proofs.Math.ListN.{drop_of_length-le}
use Rattle.std.proofs.lemmas.List.{drop_more}
use Rattle.std.specs.Option.{option_and_then, option_map}
use Rattle.swc_ecma_codegen_source_maps.specs.declared.mappings.Mapping.{Mapping}
use Rattle.swc_ecma_codegen_source_maps.specs.declared.mappings.Reached.{Reached}
use Rattle.swc_ecma_codegen_source_maps.specs.Encodable.{fields}
use Rattle.swc_ecma_codegen_source_maps.specs.Mappings.{Item, decoded, items, line_end, mapping_of, mappings_from}
use Rattle.swc_ecma_codegen_source_maps.specs.Pieces.{FollowsSegment, GoesOn, GoesOnIn, Grows, Leads, SaysFields, SaysMapping, comma, fields_before}
use Rattle.swc_ecma_codegen_source_maps.proofs.Fields.{mapping_of_fields}
use Rattle.swc_ecma_codegen_source_maps.proofs.Parts.{segment_alone, segment_then_comma, segment_then_line}

-- the end
pub ends : (b : Bool) (line : ℕ) (before : List ℕ) → GoesOnIn b line before [] []
ends false line before = refl
ends true line before = λ c cs u. (line_end ∷ [], ap items (append-nil (c ∷ cs)) ∙ segment_alone c cs u, refl)

-- `;`
line_leads : (b : Bool) (line : ℕ) (before : List ℕ) (mappings : List Mapping) (text : List ℕ) → GoesOnIn false (line + 1) (0 ∷ drop 1 before) mappings text → GoesOnIn b line before mappings (59 ∷ text)
line_leads false line before mappings text h = h
line_leads true line before mappings text h = λ c cs u. (line_end ∷ items text, segment_then_line c cs text u, h)

-- a segment where a line begins
segment_says : (m : Mapping) (before : List ℕ) (c : ℕ) (cs : List ℕ) (mappings : List Mapping) (text : List ℕ) → SaysFields before (fields m) (c ∷ cs) → FollowsSegment m.generated.line (fields m ++ drop (length (fields m)) before) mappings text → mappings_from m.generated.line before (items ((c ∷ cs) ++ text)) ≡ Some (m ∷ mappings)
segment_says m before c cs mappings text s h =
    let line : ℕ = m.generated.line in
    let rest : List Item = (h c cs s.0).0 in
    ap (mappings_from line before) (h c cs s.0).1
    ∙ (ap (λ o. option_and_then (λ fs. option_and_then (λ mapping. option_map (λ more. mapping ∷ more) (mappings_from line (fs ++ drop (length fs) before) rest)) (mapping_of line fs)) o) s.1
    ∙ (ap (λ o. option_and_then (λ mapping. option_map (λ more. mapping ∷ more) (mappings_from line (fields m ++ drop (length (fields m)) before) rest)) o) (mapping_of_fields m)
    ∙ ap (λ o. option_map (λ more. m ∷ more) o) (h c cs s.0).2))

no_field : (m : Mapping) → ◌≡◌ {A = Option (List ℕ)} (Some []) (Some (fields m)) → ⊥
no_field m e = grind arith

-- a segment, behind a `,` if its line has begun
separated : (b : Bool) (m : Mapping) (before piece : List ℕ) (mappings : List Mapping) (text : List ℕ) → SaysFields before (fields m) piece → FollowsSegment m.generated.line (fields m ++ drop (length (fields m)) before) mappings text → GoesOnIn b m.generated.line before (m ∷ mappings) (comma b ++ (piece ++ text))
separated b m before [] mappings text s h = absurd (no_field m s.1)
separated false m before (c ∷ cs) mappings text s h = segment_says m before c cs mappings text s h
separated true m before (c ∷ cs) mappings text s h = λ d ds u. (items ((c ∷ cs) ++ text), segment_then_comma d c ds (cs ++ text) u s.0.1, segment_says m before c cs mappings text s h)

-- ---- with what is reached

pub one_line_more : (r s next : Reached) (old text new : List ℕ) → Grows (Leads r s) old text → new ≡ text ++ (59 ∷ []) → next.line ≡ s.line + 1 → next.has_begun ≡ false → fields_before next ≡ 0 ∷ drop 1 (fields_before s) → Grows (Leads r next) old new
one_line_more r s next old text new g e line begun fs = (
  g.0 ++ (59 ∷ []),
  e ∙ (ap (λ t. t ++ (59 ∷ [])) g.1 ∙ append_assoc old g.0 (59 ∷ [])),
  λ mappings more h.
      let a : GoesOnIn false next.line (fields_before next) mappings more = subst (λ b. GoesOnIn b next.line (fields_before next) mappings more) begun h in
      let b : GoesOnIn false (s.line + 1) (fields_before next) mappings more = subst (λ n. GoesOnIn false n (fields_before next) mappings more) line a in
      let c : GoesOnIn false (s.line + 1) (0 ∷ drop 1 (fields_before s)) mappings more = subst (λ xs. GoesOnIn false (s.line + 1) xs mappings more) fs b in
      subst (GoesOn r mappings) (sym (append_assoc g.0 (59 ∷ []) more)) (g.2 mappings (59 ∷ more) (line_leads s.has_begun s.line (fields_before s) mappings more c)),
)

pub mapping_says : (r s next : Reached) (m : Mapping) (old lines text new : List ℕ) → Grows (Leads r s) old lines → s.line ≡ m.generated.line → text ≡ lines ++ comma s.has_begun → Grows (SaysFields (fields_before s) (fields m)) text new → next.line ≡ s.line → next.has_begun ≡ true → fields_before next ≡ fields m ++ drop (length (fields m)) (fields_before s) → Grows (SaysMapping r m next) old new
mapping_says r s next m old lines text new g at e w line begun fs =
    let mark : List ℕ = comma s.has_begun in (
      g.0 ++ (mark ++ w.0),
      w.1 ∙ (ap (λ t. t ++ w.0) e ∙ (append_assoc lines mark w.0 ∙ (ap (λ t. t ++ (mark ++ w.0)) g.1 ∙ append_assoc old g.0 (mark ++ w.0)))),
      λ mappings more h.
          let a : FollowsSegment next.line (fields_before next) mappings more = subst (λ b. GoesOnIn b next.line (fields_before next) mappings more) begun h in
          let b : FollowsSegment m.generated.line (fields_before next) mappings more = subst (λ n. FollowsSegment n (fields_before next) mappings more) (line ∙ at) a in
          let c : FollowsSegment m.generated.line (fields m ++ drop (length (fields m)) (fields_before s)) mappings more = subst (λ xs. FollowsSegment m.generated.line xs mappings more) fs b in
          let d : GoesOnIn s.has_begun m.generated.line (fields_before s) (m ∷ mappings) (mark ++ (w.0 ++ more)) = separated s.has_begun m (fields_before s) w.0 mappings more w.2 c in
          let f : GoesOn s (m ∷ mappings) (mark ++ (w.0 ++ more)) = subst (λ n. GoesOnIn s.has_begun n (fields_before s) (m ∷ mappings) (mark ++ (w.0 ++ more))) (sym at) d in
          let k : GoesOn r (m ∷ mappings) (g.0 ++ (mark ++ (w.0 ++ more))) = g.2 (m ∷ mappings) (mark ++ (w.0 ++ more)) f in
          subst (GoesOn r (m ∷ mappings)) (sym (append_assoc g.0 (mark ++ w.0) more ∙ ap (λ t. g.0 ++ t) (append_assoc mark w.0 more))) k,
    )

-- ---- a list of mappings

pub begins : (r : Reached) (mappings : List Mapping) (old : List ℕ) → old ≡ [] → r.line ≡ 0 → r.has_begun ≡ false → fields_before r ≡ 0 ∷ 0 ∷ 0 ∷ 0 ∷ 0 ∷ [] → (text : List ℕ) → GoesOn r mappings text → decoded (old ++ text) ≡ Some mappings
unfolding decoded
begins r mappings old e line begun fs text h =
    let a : GoesOnIn false r.line (fields_before r) mappings text = subst (λ b. GoesOnIn b r.line (fields_before r) mappings text) begun h in
    let b : GoesOnIn false 0 (fields_before r) mappings text = subst (λ n. GoesOnIn false n (fields_before r) mappings text) line a in
    let c : GoesOnIn false 0 (0 ∷ 0 ∷ 0 ∷ 0 ∷ 0 ∷ []) mappings text = subst (λ xs. GoesOnIn false 0 xs mappings text) fs b in
    ap (λ o. decoded (o ++ text)) e ∙ c

pub goes_further : (r next : Reached) (mappings : List Mapping) (i : ℕ) (d : Mapping) (old new : List ℕ) → i < length mappings → next.line ≡ (get_or mappings i d).generated.line → Grows (SaysMapping r (get_or mappings i d) next) old new → ((text : List ℕ) → GoesOn r (drop i mappings) text → decoded (old ++ text) ≡ Some mappings) → (text : List ℕ) → GoesOn next (drop (i + 1) mappings) text → decoded (new ++ text) ≡ Some mappings
goes_further r next mappings i d old new l at g f text h =
    let a : GoesOn r (get_or mappings i d ∷ drop (i + 1) mappings) (g.0 ++ text) = g.2 (drop (i + 1) mappings) text h in
    let b : GoesOn r (drop i mappings) (g.0 ++ text) = subst (λ xs. GoesOn r xs (g.0 ++ text)) (sym (drop_more mappings i d l)) a in
    ap (λ t. decoded (t ++ text)) g.1 ∙ (ap decoded (append_assoc old g.0 text) ∙ f (g.0 ++ text) b)

pub says_all : (r : Reached) (mappings : List Mapping) (i : ℕ) (text : List ℕ) → length mappings ≤ i → ((more : List ℕ) → GoesOn r (drop i mappings) more → decoded (text ++ more) ≡ Some mappings) → decoded text ≡ Some mappings
says_all r mappings i text l f =
    ap decoded (sym (append-nil text)) ∙ f [] (subst (λ xs. GoesOn r xs []) (sym (drop_of_length-le mappings l)) (ends r.has_begun r.line (fields_before r)))
