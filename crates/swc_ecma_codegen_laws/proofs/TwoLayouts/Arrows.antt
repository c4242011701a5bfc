-- What may be left out where an emission minifies: parentheses round the name that is the only parameter of an arrow function, and the empty arguments of `new`.
use Rattle.std.proofs.Common.{◌≡◌, ℕ, Bool, true, false, if◌then◌else◌, List, [], ◌∷◌, ◌++◌, codes, Option, Some, None, refl, sym, ap, ◌∙◌, subst, inl, inr}
use Rattle.std.proofs.lemmas.Bool.{cases_Bool, true≢false}
use Rattle.swc_ecma_codegen_common.specs.declared.positions.Span.{Span}
use Rattle.swc_ecma_codegen_grammar.specs.CommentMaps.{Maps}
use Rattle.swc_ecma_codegen_grammar.specs.Comments.{no_maps}
use Rattle.swc_ecma_codegen_grammar.specs.declared.kinds.Kind.TheVariants as kinds
use Rattle.swc_ecma_codegen_tokens.specs.declared.refusals.Unprintable.{Unprintable}
use Rattle.swc_ecma_codegen_tokens.specs.Choices.{empty_arguments}
use Rattle.swc_ecma_codegen_tokens.specs.Lists.{ListChild, list}
use Rattle.swc_ecma_codegen_tree.specs.declared.links.AnyNode.{AnyNode}
use Rattle.swc_ecma_codegen_tokens.specs.Run.{Env, Part, Plan, no_part, nothing, steps_of, unprintable_in, when_minified}
use Rattle.swc_ecma_codegen_tokens.specs.Targets.{in_ascii, is_out_name, wants_escapes}
use Rattle.swc_ecma_codegen_tokens.specs.declared.refusals.Unprintable.TheVariants.{NameOutOfTarget}
use Rattle.swc_ecma_codegen_tokens.specs.Words.{by_maps, keyword, name, punct, trailing_comments}
use Rattle.swc_ecma_codegen_emit.specs.FunctionExprs.{arrow_within, comma_list_format, parenthesis}
use Rattle.swc_ecma_codegen_laws.specs.Layouts.{IsCalled, Tokens, called, mark, new_word, no_more, token, parameter, arguments, tokens_in}
use Rattle.swc_ecma_codegen_laws.proofs.Children.{ChildrenHold}
use Rattle.swc_ecma_codegen_laws.proofs.OneName.{HoldsOneName, IsOneName}
use Rattle.swc_ecma_codegen_laws.proofs.TwoLayouts.Differing.{differ_append, differ_same}
use Rattle.swc_ecma_codegen_laws.proofs.TwoLayouts.Lists.{alike_list, list_of_one}
use Rattle.swc_ecma_codegen_laws.proofs.TwoLayouts.Names.{kept, name_stop, name_tokens, name_writes, stop_if, unless}
use Rattle.swc_ecma_codegen_laws.proofs.TwoLayouts.Words.{always_keyword, always_punct, always_trailing}
use Rattle.swc_ecma_codegen_laws.proofs.TwoLayouts.Emissions.{TwoLayouts, Both, Fits, IsAlike, Writes, bare, Always, always_none, always_then, both_always, both_as, both_then, ends_with, first_config, first_env, second_config, second_env, whole_steps, writes_as, writes_chosen, writes_more, writes_stop, writes_then}

-- ---- arrow functions

-- parentheses round a name, which aren't there where an emission minifies
abbrev paren : Bool → List ℕ → Tokens
paren minify t = if minify then [] else mark t ∷ []

paren_writes : (env : Env) (t : List ℕ) → Writes (bare env) (parenthesis true t) (paren env.config.minify t) None
unfolding parenthesis when_minified no_part
paren_writes env t = writes_as (parenthesis true t) (λ rest now. if env.config.minify then rest now else punct t rest now) (λ rest. refl) (writes_chosen env.config.minify (λ rest. rest) (punct t) (always_none.at env) ((always_punct t).at env))

abbrev arrow_mark : Tokens
arrow_mark = mark (codes "=>") ∷ []

fits_arrow : (two : TwoLayouts) (a b : Bool) → (b ≡ true → a ≡ true) → (two.layout ≡ false → a ≡ b) → (name : List ℕ) → Fits two (paren a (codes "(") ++ (((kinds.Name, name) ∷ []) ++ (paren a (codes ")") ++ arrow_mark))) (paren b (codes "(") ++ (((kinds.Name, name) ∷ []) ++ (paren b (codes ")") ++ arrow_mark)))
fits_arrow two true true o e name = differ_same ((kinds.Name, name) ∷ arrow_mark)
fits_arrow two true false o e name = parameter name [] [] (elim (cases_Bool two.layout) [ inl l ↦ l | inr l ↦ absurd (true≢false (e l)) ]) no_more
fits_arrow two false true o e name = absurd (true≢false (sym (o refl)))
fits_arrow two false false o e name = differ_same (mark (codes "(") ∷ (kinds.Name, name) ∷ mark (codes ")") ∷ arrow_mark)

-- a part in such parentheses, and `=>`
abbrev in_parens : Part → Part
in_parens p rest = parenthesis true (codes "(") (p (parenthesis true (codes ")") (punct (codes "=>") rest)))

parens_write : (env : Env) (p : Part) (ts : Tokens) → Writes (bare env) p ts None → Writes (bare env) (in_parens p) (paren env.config.minify (codes "(") ++ (ts ++ (paren env.config.minify (codes ")") ++ arrow_mark))) None
parens_write env p ts h =
    writes_then (parenthesis true (codes "(")) (λ rest. p (parenthesis true (codes ")") (punct (codes "=>") rest))) (paren_writes env (codes "("))
    (writes_then p (λ rest. parenthesis true (codes ")") (punct (codes "=>") rest)) h
    (writes_then (parenthesis true (codes ")")) (punct (codes "=>")) (paren_writes env (codes ")")) ((always_punct (codes "=>")).at env)))

parens_stop : (env : Env) (p : Part) (ts : Tokens) (r : Unprintable) → Writes (bare env) p ts (Some r) → Writes (bare env) (in_parens p) (paren env.config.minify (codes "(") ++ ts) (Some r)
parens_stop env p ts r h =
    writes_then (parenthesis true (codes "(")) (λ rest. p (parenthesis true (codes ")") (punct (codes "=>") rest))) (paren_writes env (codes "("))
    (writes_stop p (λ rest. parenthesis true (codes ")") (punct (codes "=>") rest)) h)

never_ends : {A : Type 0} (r : Unprintable) → ◌≡◌ {A = Option Unprintable} (Some r) None → A
never_ends r h = absurd (cc)

-- a name, or one that can't be written
name_in : {two : TwoLayouts} (x y : Option ℕ) (p : Part) (out : Bool) (name : List ℕ) → Writes (first_env two x) p (unless out ((kinds.Name, name) ∷ [])) (stop_if out) → Writes (second_env two y) p (unless out ((kinds.Name, name) ∷ [])) (stop_if out) → Both two x y (in_parens p) (in_parens p)
name_in {two} x y p true name h k = record { us = _; vs = _; stop = Some NameOutOfTarget; first = parens_stop (first_env two x) p [] NameOutOfTarget h; second = parens_stop (second_env two y) p [] NameOutOfTarget k; fit = λ z. never_ends NameOutOfTarget z }
name_in {two} x y p false name h k = record { us = _; vs = _; stop = None; first = parens_write (first_env two x) p ((kinds.Name, name) ∷ []) h; second = parens_write (second_env two y) p ((kinds.Name, name) ∷ []) k; fit = λ z. fits_arrow two two.first_minify two.second_minify two.ordered two.one_layout name }

one_writes : (env : Env) (part : Part) (h : IsOneName part) → Writes (bare env) part (name_tokens env h.sym) (name_stop env h.sym)
one_writes env part h =
    writes_as part (λ rest. name h.span h.sym false (trailing_comments true h.behind rest)) (λ rest. ap (λ z. z (bare env)) (h.is_name rest))
    (writes_more env (name h.span h.sym false) (trailing_comments true h.behind) (name_tokens env h.sym) (name_stop env h.sym) (name_writes env h.span h.sym) (always_trailing true h.behind))

list_writes : (env : Env) (span : Span) (cs : List ListChild) (h : HoldsOneName cs) → Writes (bare env) (list comma_list_format span cs) (name_tokens env h.one.sym) (name_stop env h.one.sym)
list_writes env span cs h = subst (λ z. Writes (bare env) (list comma_list_format span z) (name_tokens env h.one.sym) (name_stop env h.one.sym)) (sym h.only) (list_of_one env span h.place h.part (name_tokens env h.one.sym) (name_stop env h.one.sym) (one_writes env h.part h.one))

both_plain : {two : TwoLayouts} (x y : Option ℕ) (span : Span) (cs : List ListChild) → HoldsOneName cs → Both two x y (λ rest. arrow_within true span cs (punct (codes "=>") rest)) (λ rest. arrow_within true span cs (punct (codes "=>") rest))
unfolding arrow_within is_out_name in_ascii wants_escapes
both_plain {two} x y span cs h = name_in x y (list comma_list_format span cs) (is_out_name two.config (kept two.keeps_invalid h.one.sym)) (in_ascii two.config (kept two.keeps_invalid h.one.sym)) (list_writes (first_env two x) span cs h) (list_writes (second_env two y) span cs h)

both_listed : {two : TwoLayouts} (bounded : Bool) (x y : Option ℕ) (span : Span) (cs : List ListChild) (result : Part) → ChildrenHold (IsAlike two) bounded cs → IsAlike two bounded result → Both two x y (λ rest. arrow_within false span cs (result (punct (codes "=>") rest))) (λ rest. arrow_within false span cs (result (punct (codes "=>") rest)))
unfolding arrow_within parenthesis
both_listed bounded x y span cs result h k =
    both_then (both_always (always_punct (codes "(")) (always_punct (codes "(")))
    (both_then ((alike_list bounded comma_list_format refl span cs h).at x y)
    (both_then (both_always (always_punct (codes ")")) (always_punct (codes ")")))
    (both_then (k.at x y) (both_always (always_punct (codes "=>")) (always_punct (codes "=>"))))))

pub alike_arrow : {two : TwoLayouts} (bounded : Bool) (plain : Maps → Bool) (span : Span) (cs : List ListChild) (result : Part) → ChildrenHold (IsAlike two) bounded cs → IsAlike two bounded result → ((maps : Maps) → plain maps ≡ true → (rest : Plan) → result rest ≡ rest) → ((maps : Maps) → plain maps ≡ true → HoldsOneName cs) → IsAlike two bounded (λ rest. by_maps (λ maps. arrow_within (plain maps) span cs) (result (punct (codes "=>") rest)))
unfolding by_maps
alike_arrow {two} bounded plain span cs result h k bare_result one =
    let whole : Part = λ rest. by_maps (λ maps. arrow_within (plain maps) span cs) (result (punct (codes "=>") rest)) in
    record {
      at = λ x y. elim (cases_Bool (plain no_maps)) [
        | inl e ↦ both_as whole whole (λ rest. arrow_within true span cs (punct (codes "=>") rest)) (λ rest. arrow_within true span cs (punct (codes "=>") rest))
            (λ rest. ap (λ b. arrow_within b span cs (result (punct (codes "=>") rest)) (first_env two x)) e ∙ ap (λ z. arrow_within true span cs z (first_env two x)) (bare_result no_maps e (punct (codes "=>") rest)))
            (λ rest. ap (λ b. arrow_within b span cs (result (punct (codes "=>") rest)) (second_env two y)) e ∙ ap (λ z. arrow_within true span cs z (second_env two y)) (bare_result no_maps e (punct (codes "=>") rest)))
            (both_plain x y span cs (one no_maps e))
        | inr e ↦ both_as whole whole (λ rest. arrow_within false span cs (result (punct (codes "=>") rest))) (λ rest. arrow_within false span cs (result (punct (codes "=>") rest)))
            (λ rest. ap (λ b. arrow_within b span cs (result (punct (codes "=>") rest)) (first_env two x)) e)
            (λ rest. ap (λ b. arrow_within b span cs (result (punct (codes "=>") rest)) (second_env two y)) e)
            (both_listed bounded x y span cs result h k)
      ];
    }

-- ---- `new`

abbrev no_arguments : Bool → Tokens
no_arguments minify = if minify then [] else mark (codes "(") ∷ mark (codes ")") ∷ []

arguments_write : (env : Env) → Writes (bare env) empty_arguments (no_arguments env.config.minify) None
unfolding empty_arguments when_minified no_part
arguments_write env =
    let both : Part = λ rest. punct (codes "(") (punct (codes ")") rest) in
    writes_as empty_arguments (λ rest now. if env.config.minify then rest now else both rest now) (λ rest. refl) (writes_chosen env.config.minify (λ rest. rest) both (always_none.at env) ((always_then (always_punct (codes "(")) (always_punct (codes ")"))).at env))

-- what is called, as an emission writes it
is_called : (env : Env) (callee : AnyNode) (types : Option AnyNode) (ts : Tokens) → Writes (bare env) (called callee types) ts None → IsCalled env.config callee types ts
unfolding nothing
is_called env callee types ts h = record {
  env = bare env;
  settings = refl;
  bare = refl;
  whole = ap unprintable_in (h.is_steps nothing) ∙ ends_with h.steps None (bare env);
  tokens = ap (λ z. tokens_in (steps_of z)) (h.is_steps nothing) ∙ ap tokens_in (whole_steps h.steps None (bare env)) ∙ h.tokens;
}

fits_new : (two : TwoLayouts) (callee : AnyNode) (types : Option AnyNode) (a b : Bool) → (b ≡ true → a ≡ true) → (two.layout ≡ false → a ≡ b) → (us vs : Tokens) → IsCalled (first_config two) callee types us → IsCalled (second_config two) callee types vs → Fits two us vs → Fits two (new_word ∷ (us ++ no_arguments a)) (new_word ∷ (vs ++ no_arguments b))
fits_new two callee types true true o e us vs k m h = token new_word (us ++ []) (vs ++ []) (differ_append us vs [] [] h no_more)
fits_new two callee types true false o e us vs k m h = arguments callee types us vs [] [] (elim (cases_Bool two.layout) [ inl l ↦ l | inr l ↦ absurd (true≢false (e l)) ]) k m h no_more
fits_new two callee types false true o e us vs k m h = absurd (true≢false (sym (o refl)))
fits_new two callee types false false o e us vs k m h = token new_word (us ++ no_arguments false) (vs ++ no_arguments false) (differ_append us vs (no_arguments false) (no_arguments false) h (differ_same (no_arguments false)))

new_by : {two : TwoLayouts} (x y : Option ℕ) (callee : AnyNode) (types : Option AnyNode) (us vs : Tokens) (stop : Option Unprintable) → Writes (first_env two x) (called callee types) us stop → Writes (second_env two y) (called callee types) vs stop → (stop ≡ None → Fits two us vs) → Both two x y (λ rest. keyword None (codes "new") (called callee types (empty_arguments rest))) (λ rest. keyword None (codes "new") (called callee types (empty_arguments rest)))
new_by {two} x y callee types us vs (Some r) h k fit =
    let before : Part = called callee types in
    let word : Always (keyword None (codes "new")) ((kinds.Word, codes "new") ∷ []) = always_keyword None (codes "new") in
    let more : Part = λ rest. before (empty_arguments rest) in
    record {
      us = (kinds.Word, codes "new") ∷ us;
      vs = (kinds.Word, codes "new") ∷ vs;
      stop = Some r;
      first = writes_then (keyword None (codes "new")) more (word.at (first_env two x)) (writes_stop before empty_arguments h);
      second = writes_then (keyword None (codes "new")) more (word.at (second_env two y)) (writes_stop before empty_arguments k);
      fit = λ z. never_ends r z;
    }
new_by {two} x y callee types us vs None h k fit =
    let before : Part = called callee types in
    let word : Always (keyword None (codes "new")) ((kinds.Word, codes "new") ∷ []) = always_keyword None (codes "new") in
    let more : Part = λ rest. before (empty_arguments rest) in
    record {
      us = (kinds.Word, codes "new") ∷ (us ++ no_arguments two.first_minify);
      vs = (kinds.Word, codes "new") ∷ (vs ++ no_arguments two.second_minify);
      stop = None;
      first = writes_then (keyword None (codes "new")) more (word.at (first_env two x)) (writes_then before empty_arguments h (arguments_write (first_env two x)));
      second = writes_then (keyword None (codes "new")) more (word.at (second_env two y)) (writes_then before empty_arguments k (arguments_write (second_env two y)));
      fit = λ z. fits_new two callee types two.first_minify two.second_minify two.ordered two.one_layout us vs (is_called (first_env two x) callee types us h) (is_called (second_env two y) callee types vs k) (fit refl);
    }

pub alike_new : {two : TwoLayouts} (bounded : Bool) (callee : AnyNode) (types : Option AnyNode) → IsAlike two bounded (called callee types) → IsAlike two bounded (λ rest. keyword None (codes "new") (called callee types (empty_arguments rest)))
alike_new bounded callee types h = record { at = λ x y. let m = h.at x y in new_by x y callee types m.us m.vs m.stop m.first m.second m.fit }
