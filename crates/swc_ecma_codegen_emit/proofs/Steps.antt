-- The next of a list.
use Rattle.std.proofs.Common.{◌≡◌, ℕ, ◌+◌, ◌<◌, ◌≤◌, Bool, true, false, not, ◌&&◌, cond, Option, Some, None, List, length, get_or, drop, map, ◌∷◌, refl, ◌∙◌, ap, drop-cons, add-one}
use Rattle.std.specs.List.{filter}
use Rattle.std.proofs.lemmas.List.{at_drop_all}
use Rattle.swc_ecma_codegen_grammar.specs.ListFormats.{indented}
use Rattle.swc_ecma_codegen_settings.specs.declared.config.Config.{Config}
use Rattle.swc_ecma_codegen_tree.specs.declared.modules.ImportSpecifier.{ImportSpecifier}
use Rattle.swc_ecma_codegen_tokens.specs.Run.{Plan, Part}
use Rattle.swc_ecma_codegen_common.specs.declared.positions.Span.{Span}
use Rattle.swc_ecma_codegen_tokens.specs.Lists.{ListChild, more_children, last_place, next_child, list_closing, list_after, list, level_if, list_levels}
use Rattle.swc_ecma_codegen_emit.specs.Places.{Place}
use Rattle.swc_ecma_codegen_tree.specs.declared.exprs.TplElement.{TplElement}
use Rattle.swc_ecma_codegen_grammar.specs.TemplatePhrases.{part_before}
use Rattle.swc_ecma_codegen_tokens.specs.Templates.{tpl_element}
use Rattle.swc_ecma_codegen_emit.specs.Lists.{comma, listed, in_order, child_of, braced_child, braced_rest}
use Rattle.swc_ecma_codegen_emit.specs.Exprs.{blank}
use Rattle.swc_ecma_codegen_emit.specs.Jsx.{jsx_attributes}
use Rattle.swc_ecma_codegen_emit.specs.Modules.{is_default, before_brace, before_braces}
use Rattle.swc_ecma_codegen_emit.specs.Templates.{tpl_rest}

-- the next of a list with commas
pub listed_next : {A : Type 0} (each : A → Part) (first : Bool) (xs : List A) (i : ℕ) (d : A) (rest : Plan) → i < length xs → listed each first (drop i xs) rest ≡ comma first (each (get_or xs i d) (listed each false (drop (i + 1) xs) rest))
unfolding listed
listed_next each first xs i d rest h = ap (λ ys. listed each first ys rest) (drop-cons xs i d h) ∙ rw (add-one) refl

-- the next of a list
pub in_order_next : {A : Type 0} (each : A → Part) (xs : List A) (i : ℕ) (d : A) (rest : Plan) → i < length xs → in_order each (drop i xs) rest ≡ each (get_or xs i d) (in_order each (drop (i + 1) xs) rest)
unfolding in_order
in_order_next each xs i d rest h = ap (λ ys. in_order each ys rest) (drop-cons xs i d h) ∙ rw (add-one) refl

-- the next child of a list by its format
pub list_next : {A : Type 0} (format : ℕ) (parent previous : Span) (place : A → Span) (items : A → Place → Part) (xs : List A) (i : ℕ) (d : A) (rest : Plan) → i < length xs → list_after format parent previous (map (child_of place items) (drop i xs)) rest ≡ next_child format previous (child_of place items (get_or xs i d)) (list_after format parent (place (get_or xs i d)) (map (child_of place items) (drop (i + 1) xs)) rest)
unfolding more_children last_place
list_next format parent previous place items xs i d rest h = ap (λ ys. list_after format parent previous (map (child_of place items) ys) rest) (drop-cons xs i d h) ∙ rw (add-one) refl

-- the next attribute
pub attributes_next : {A : Type 0} (each : A → Part) (first : Bool) (xs : List A) (i : ℕ) (d : A) (rest : Plan) → i < length xs → jsx_attributes each first (drop i xs) rest ≡ blank first (each (get_or xs i d) (jsx_attributes each false (drop (i + 1) xs) rest))
unfolding jsx_attributes
attributes_next each first xs i d rest h = ap (λ ys. jsx_attributes each first ys rest) (drop-cons xs i d h) ∙ rw (add-one) refl

-- and none is left
pub list_ended : {A : Type 0} (format : ℕ) (parent previous : Span) (place : A → Span) (items : A → Place → Part) (xs : List A) (i : ℕ) (rest : Plan) → length xs ≤ i → list_after format parent previous (map (child_of place items) (drop i xs)) rest ≡ list_closing format parent previous rest
unfolding more_children last_place
list_ended format parent previous place items xs i rest h = at_drop_all (λ ys. list_after format parent previous (map (child_of place items) ys) rest) xs i h

drop_next : {A : Type 0} (xs : List A) (i : ℕ) (d : A) → i < length xs → drop i xs ≡ get_or xs i d ∷ drop (i + 1) xs
drop_next xs i d h = drop-cons xs i d h ∙ rw (add-one) refl

first_or_next : (format : ℕ) (parent : Span) (previous : Option Span) (x : ListChild) (xs : List ListChild) (rest : Plan) → braced_rest format parent previous (x ∷ xs) rest ≡ braced_child format parent previous x (braced_rest format parent (Some x.place) xs rest)
unfolding braced_rest braced_child list more_children last_place
first_or_next format parent None x xs rest = refl
first_or_next format parent (Some p) x xs rest = refl

-- the next of those that stand in braces
pub braced_next : {A : Type 0} (format : ℕ) (parent : Span) (previous : Option Span) (place : A → Span) (items : A → Place → Part) (test : A → Bool) (xs : List A) (i : ℕ) (d : A) (rest : Plan) → i < length xs → test (get_or xs i d) ≡ true → braced_rest format parent previous (map (child_of place items) (filter test (drop i xs))) rest ≡ braced_child format parent previous (child_of place items (get_or xs i d)) (braced_rest format parent (Some (place (get_or xs i d))) (map (child_of place items) (filter test (drop (i + 1) xs))) rest)
braced_next format parent previous place items test xs i d rest h t =
    let here = get_or xs i d in
    let more = drop (i + 1) xs in
    ap (λ ys. braced_rest format parent previous (map (child_of place items) (filter test ys)) rest) (drop_next xs i d h)
    ∙ ap (λ b. braced_rest format parent previous (map (child_of place items) (cond b (here ∷ filter test more) (filter test more))) rest) t
    ∙ first_or_next format parent previous (child_of place items here) (map (child_of place items) (filter test more)) rest

-- one that stands elsewhere
pub braced_passed : {A : Type 0} (test : A → Bool) (xs : List A) (i : ℕ) (d : A) → i < length xs → test (get_or xs i d) ≡ false → filter test (drop i xs) ≡ filter test (drop (i + 1) xs)
braced_passed test xs i d h t =
    let more = drop (i + 1) xs in
    ap (filter test) (drop_next xs i d h) ∙ ap (λ b. cond b (get_or xs i d ∷ filter test more) (filter test more)) t

-- a list that isn't indented makes no level
pub no_levels : (format : ℕ) (config : Config) → indented format ≡ false → list_levels format config ≡ 0
no_levels format config h = ap (λ b. level_if b config) h

-- the next of what stands before the braces of an import
pub before_next : (first : Bool) (xs : List ImportSpecifier) (i : ℕ) (d : ImportSpecifier) (rest : Plan) → i < length xs → before_braces first (drop i xs) rest ≡ before_brace first (get_or xs i d) (before_braces (first && not (is_default (get_or xs i d))) (drop (i + 1) xs) rest)
unfolding before_braces
before_next first xs i d rest h = ap (λ ys. before_braces first ys rest) (drop-cons xs i d h) ∙ rw (add-one) refl

-- the next expression of a template, or type, and the part after it
pub tpl_next : {A : Type 0} (each : A → Part) (tagged : Bool) (es : List A) (i : ℕ) (d : A) (q : TplElement) (qs : List TplElement) (rest : Plan) → i < length es → tpl_rest each tagged (drop i es) (q ∷ qs) rest ≡ each (get_or es i d) (tpl_element false (part_before tagged qs) q (tpl_rest each tagged (drop (i + 1) es) qs rest))
unfolding tpl_rest
tpl_next each tagged es i d q qs rest h = ap (λ ys. tpl_rest each tagged ys (q ∷ qs) rest) (drop-cons es i d h) ∙ rw (add-one) refl
