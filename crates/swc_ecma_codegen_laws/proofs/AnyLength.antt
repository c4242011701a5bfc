-- What a part writes is the same for any greatest length of lines, but for the places where a line may be ended.
use Rattle.std.proofs.Common.{◌≡◌, ℕ, Bool, true, false, not, cond, ◌&&◌, ◌||◌, List, [], ◌∷◌, ◌++◌, codes, Option, Some, None, refl, sym, ap, ◌∙◌, subst, append_assoc}
use Rattle.std.proofs.lemmas.Bool.{and_from}
use Rattle.swc_ecma_codegen_common.specs.declared.operators.BinaryOp.{BinaryOp}
use Rattle.swc_ecma_codegen_common.specs.declared.positions.Span.{Span}
use Rattle.swc_ecma_codegen_common.specs.Operators.{assign_text, binary_text, update_text}
use Rattle.swc_ecma_codegen_grammar.specs.declared.kinds.Kind.TheVariants.{Word, Punctuator, Ending}
use Rattle.swc_ecma_codegen_grammar.specs.GapRules.{PreviousToken}
use Rattle.swc_ecma_codegen_grammar.specs.CommentMaps.{Maps}
use Rattle.swc_ecma_codegen_grammar.specs.TemplatePhrases.{part_before}
use Rattle.swc_ecma_codegen_tree.specs.declared.exprs.TplElement.{TplElement}
use Rattle.swc_ecma_codegen_tree.specs.declared.links.AnyNode.{AnyNode}
use Rattle.swc_ecma_codegen_text_writer.specs.Sheet.{Item, Keyword, Operator, Punct, Semi}
use Rattle.swc_ecma_codegen_tokens.specs.declared.refusals.Unprintable.{Unprintable}
use Rattle.swc_ecma_codegen_tokens.specs.Calls.{calls_by, calls_of, last_by}
use Rattle.swc_ecma_codegen_tokens.specs.Run.{Env, Part, Plan, Step, Guard, Token, is_bounded, at_maps, after_plain, after_step, maps_after, refuse, step, unbounded, with_max_line}
use Rattle.swc_ecma_codegen_tokens.specs.Words.{allow_break, allows_break, bare_punct, bare_semi, keyword, operator, placed_punct, punct, semi, word_operator}
use Rattle.swc_ecma_codegen_tokens.proofs.Emission.Fronts.{is_inner_step, are_inner_steps, inner_append}
use Rattle.swc_ecma_codegen_tokens.proofs.Reading.Printed.{chain, chain_append, env_after, maps_append}
use Rattle.swc_ecma_codegen_emit.specs.Places.{Place}
use Rattle.swc_ecma_codegen_emit.specs.Exprs.{binary_op, yield_star}
use Rattle.swc_ecma_codegen_emit.specs.Operands.{is_word_op}
use Rattle.swc_ecma_codegen_emit.specs.Templates.{tpl_parts, tpl_all, tpl_rest}
use Rattle.swc_ecma_codegen_emit.specs.Tree.{any_items}
use Rattle.swc_ecma_codegen_laws.specs.Breaks.{is_mark, is_break, is_enclosed, whole_node}
use Rattle.swc_ecma_codegen_laws.specs.Enclosing.{is_element, is_function}
use Rattle.swc_ecma_codegen_laws.specs.Lengths.{is_break_call, unbroken_calls}
use Rattle.swc_ecma_codegen_laws.proofs.BreakSteps.{behind, broken, on}
use Rattle.swc_ecma_codegen_laws.proofs.Children.{NodesHold}
use Rattle.swc_ecma_codegen_laws.proofs.OfSteps.{OfSteps, is_other}
use Rattle.swc_ecma_codegen_laws.proofs.OfWords.{OfWords}
use Rattle.swc_ecma_codegen_laws.proofs.StepsOfTemplates.{tpl_element_holds}
use Rattle.swc_ecma_codegen_laws.proofs.WordsOfSteps.{words_of}

-- ---- calls

-- the last token after some steps
unfoldable pub last_of : List Step → PreviousToken → PreviousToken
last_of [] k = k
last_of (x ∷ xs) k = last_of xs (last_by x k)

last_append : (xs ys : List Step) (k : PreviousToken) → last_of (xs ++ ys) k ≡ last_of ys (last_of xs k)
unfolding last_of
last_append [] ys k = refl
last_append (x ∷ xs) ys k = last_append xs ys (last_by x k)

calls_both : (xs ys : List Step) (k : PreviousToken) → calls_of (xs ++ ys) k ≡ calls_of xs k ++ calls_of ys (last_of xs k)
unfolding calls_of last_of
calls_both [] ys k = refl
calls_both (x ∷ xs) ys k = ap (λ z. calls_by x k ++ z) (calls_both xs ys (last_by x k)) ∙ sym (append_assoc (calls_by x k) (calls_of xs (last_by x k)) (calls_of ys (last_of xs (last_by x k))))

unbroken_both : (xs ys : List Item) → unbroken_calls (xs ++ ys) ≡ unbroken_calls xs ++ unbroken_calls ys
unfolding unbroken_calls
unbroken_both [] ys = refl
unbroken_both (x ∷ xs) ys = elim (is_break_call x) as (λ b. cond b (unbroken_calls (xs ++ ys)) (x ∷ unbroken_calls (xs ++ ys)) ≡ cond b (unbroken_calls xs) (x ∷ unbroken_calls xs) ++ unbroken_calls ys) [
  | true ↦ unbroken_both xs ys
  | false ↦ ap (λ z. x ∷ z) (unbroken_both xs ys)
]

-- ---- two lists of steps that are the same but for breaks

pub record SameButBreaks (xs ys : List Step) : Type 0 where
  pub calls : (k : PreviousToken) → unbroken_calls (calls_of xs k) ≡ unbroken_calls (calls_of ys k)
  pub last : (k : PreviousToken) → last_of xs k ≡ last_of ys k
  pub maps : (maps : Maps) → maps_after xs maps ≡ maps_after ys maps
  pub first_inner : are_inner_steps xs ≡ true
  pub second_inner : are_inner_steps ys ≡ true

same_steps : (xs : List Step) → are_inner_steps xs ≡ true → SameButBreaks xs xs
same_steps xs h = record { calls = λ k. refl; last = λ k. refl; maps = λ m. refl; first_inner = h; second_inner = h }

same_both : (xs ys us vs : List Step) → SameButBreaks xs ys → SameButBreaks us vs → SameButBreaks (xs ++ us) (ys ++ vs)
same_both xs ys us vs h k = record {
  calls = λ t.
      ap unbroken_calls (calls_both xs us t) ∙ unbroken_both (calls_of xs t) (calls_of us (last_of xs t))
      ∙ ap (λ z. z ++ unbroken_calls (calls_of us (last_of xs t))) (h.calls t)
      ∙ ap (λ z. unbroken_calls (calls_of ys t) ++ z) (k.calls (last_of xs t) ∙ ap (λ z. unbroken_calls (calls_of vs z)) (h.last t))
      ∙ sym (ap unbroken_calls (calls_both ys vs t) ∙ unbroken_both (calls_of ys t) (calls_of vs (last_of ys t)));
  last = λ t. last_append xs us t ∙ k.last (last_of xs t) ∙ ap (last_of vs) (h.last t) ∙ sym (last_append ys vs t);
  maps = λ m. maps_append xs us m ∙ k.maps (maps_after xs m) ∙ ap (maps_after vs) (h.maps m) ∙ sym (maps_append ys vs m);
  first_inner = inner_append xs us ∙ and_from (are_inner_steps xs) (are_inner_steps us) h.first_inner k.first_inner;
  second_inner = inner_append ys vs ∙ and_from (are_inner_steps ys) (are_inner_steps vs) h.second_inner k.second_inner;
}

same_behind : (a b : Bool) → SameButBreaks (behind a) (behind b)
unfolding calls_of calls_by last_of last_by after_plain maps_after after_step unbroken_calls is_break_call
same_behind true true = record { calls = λ k. refl; last = λ k. refl; maps = λ m. refl; first_inner = refl; second_inner = refl }
same_behind true false = record { calls = λ k. refl; last = λ k. refl; maps = λ m. refl; first_inner = refl; second_inner = refl }
same_behind false true = record { calls = λ k. refl; last = λ k. refl; maps = λ m. refl; first_inner = refl; second_inner = refl }
same_behind false false = record { calls = λ k. refl; last = λ k. refl; maps = λ m. refl; first_inner = refl; second_inner = refl }

-- ---- what a part writes at two lengths

abbrev pub at : Option ℕ → Env → Env
at max env = record env { max_line = max }

pub record WritesBoth (env : Env) (max other : Option ℕ) (part : Part) : Type 0 where
  pub xs : List Step
  pub ys : List Step
  pub stop : Option Unprintable
  pub first : (rest : Plan) → part rest (at max env) ≡ chain xs (on stop rest (env_after xs (at max env)))
  pub second : (rest : Plan) → part rest (at other env) ≡ chain ys (on stop rest (env_after ys (at other env)))
  pub same : SameButBreaks xs ys

-- wherever lines may be ended
pub record IsSame (bounded : Bool) (part : Part) : Type 0 where
  pub at_both : (env : Env) (max other : Option ℕ) → WritesBoth env max other part

-- the same steps at any length
same_writes : (bounded : Bool) (part : Part) (xs : List Step) → ((rest : Plan) (env : Env) → part rest env ≡ chain xs (rest (env_after xs env))) → are_inner_steps xs ≡ true → IsSame bounded part
same_writes bounded part xs h i = record { at_both = λ env max other. record { xs = xs; ys = xs; stop = None; first = λ rest. h rest (at max env); second = λ rest. h rest (at other env); same = same_steps xs i } }

same_none : (bounded : Bool) → IsSame bounded (λ rest. rest)
unfolding chain maps_after
same_none bounded = same_writes bounded (λ rest. rest) [] (λ rest env. refl) refl

one_then : (env : Env) (p q : Part) (xs us : List Step) (stop : Option Unprintable) → ((rest : Plan) → p rest env ≡ chain xs (rest (env_after xs env))) → ((rest : Plan) → q rest (env_after xs env) ≡ chain us (on stop rest (env_after us (env_after xs env)))) → (rest : Plan) → p (q rest) env ≡ chain (xs ++ us) (on stop rest (env_after (xs ++ us) env))
one_then env p q xs us stop h k rest =
    h (q rest) ∙ ap (chain xs) (k rest) ∙ sym (chain_append xs us (on stop rest (env_after us (env_after xs env))))
    ∙ ap (λ z. chain (xs ++ us) (on stop rest (at_maps z env))) (sym (maps_append xs us env.maps))

then_by : (env : Env) (max other : Option ℕ) (p q : Part) (xs ys : List Step) (stop : Option Unprintable) → ((rest : Plan) → p rest (at max env) ≡ chain xs (on stop rest (env_after xs (at max env)))) → ((rest : Plan) → p rest (at other env) ≡ chain ys (on stop rest (env_after ys (at other env)))) → SameButBreaks xs ys → WritesBoth (env_after xs env) max other q → WritesBoth env max other (λ rest. p (q rest))
then_by env max other p q xs ys (Some r) h k e m = record { xs = xs; ys = ys; stop = Some r; first = λ rest. h (q rest); second = λ rest. k (q rest); same = e }
then_by env max other p q xs ys None h k e m = record {
  xs = xs ++ m.xs;
  ys = ys ++ m.ys;
  stop = m.stop;
  first = one_then (at max env) p q xs m.xs m.stop h m.first;
  second =
      one_then (at other env) p q ys m.ys m.stop k
      (subst (λ z. (rest : Plan) → q rest (at_maps z (at other env)) ≡ chain m.ys (on m.stop rest (env_after m.ys (at_maps z (at other env))))) (e.maps env.maps) m.second);
  same = same_both xs ys m.xs m.ys e m.same;
}

same_then : (bounded : Bool) {p q : Part} → IsSame bounded p → IsSame bounded q → IsSame bounded (λ rest. p (q rest))
same_then bounded {p} {q} h k = record { at_both = λ env max other. let x = h.at_both env max other in then_by env max other p q x.xs x.ys x.stop x.first x.second x.same (k.at_both (env_after x.xs env) max other) }

same_refuse : (bounded : Bool) (r : Unprintable) → IsSame bounded (refuse r)
unfolding chain refuse
same_refuse bounded r = record { at_both = λ env max other. record { xs = []; ys = []; stop = Some r; first = λ rest. refl; second = λ rest. refl; same = same_steps [] refl } }

same_by_env : (bounded : Bool) (ask : Env → Part) → ((now : Env) → IsSame bounded (ask now)) → IsSame bounded (λ rest env. ask (record env { max_line = None }) rest env)
same_by_env bounded ask h = record { at_both = λ env max other. let x = (h (record env { max_line = None })).at_both env max other in record { xs = x.xs; ys = x.ys; stop = x.stop; first = x.first; second = x.second; same = x.same } }

any_step : (bounded : Bool) (x : Step) → is_inner_step x ≡ true → IsSame bounded (step x)
unfolding chain step maps_after
any_step bounded x h = same_writes bounded (step x) (x ∷ []) (λ rest env. refl) (and_from (is_inner_step x) true h refl)

inner_of : (a b : Bool) → (not a && b) ≡ true → b ≡ true
inner_of true b h = absurd (cc)
inner_of false b h = h

same_step : (bounded : Bool) (x : Step) → is_other x ≡ true → IsSame bounded (step x)
unfolding is_other
same_step bounded x h = any_step bounded x (inner_of (is_enclosed x) (is_inner_step x) (inner_of (is_mark x || is_break x) (not (is_enclosed x) && is_inner_step x) h))

-- ---- breaks

behind_on : (b : Bool) (rest : Plan) (env : Env) → chain (behind b) (rest env) ≡ chain (behind b) (rest (env_after (behind b) env))
unfolding maps_after after_step
behind_on true rest env = refl
behind_on false rest env = refl

same_break : (bounded : Bool) → IsSame bounded allow_break
same_break bounded = record {
  at_both = λ env max other.
      let a : Bool = is_bounded (at max env) in
      let b : Bool = is_bounded (at other env) in
      record {
        xs = behind a;
        ys = behind b;
        stop = None;
        first = λ rest. broken a rest (at max env) refl ∙ behind_on a rest (at max env);
        second = λ rest. broken b rest (at other env) refl ∙ behind_on b rest (at other env);
        same = same_behind a b;
      };
}

guarded : (bounded : Bool) (t : List ℕ) (x : Step) → is_inner_step x ≡ true → IsSame bounded (λ rest. step (Guard t) (step x rest))
guarded bounded t x h = same_then bounded (any_step bounded (Guard t) refl) (any_step bounded x h)

by_bool : (bounded b : Bool) {p q : Part} → IsSame bounded p → IsSame bounded q → IsSame bounded (λ rest. cond b (p rest) (q rest))
by_bool bounded true h k = h
by_bool bounded false h k = k

same_punct : (bounded : Bool) (t : List ℕ) → IsSame bounded (punct t)
unfolding punct bare_punct
same_punct bounded t = same_then bounded (guarded bounded t (Token Punctuator (Punct None t)) refl) (by_bool bounded (allows_break t) (same_break bounded) (same_none bounded))

same_semi : (bounded : Bool) → IsSame bounded semi
unfolding semi bare_semi
same_semi bounded = same_then bounded (guarded bounded (codes ";") (Token Ending (Semi None)) refl) (same_break bounded)

pub same_steps_hold : OfSteps IsSame
same_steps_hold = record { none = same_none; and_then = same_then; refuse = same_refuse; by_env = same_by_env; step = same_step; enclosed = λ x h i. any_step false x i; punct = same_punct; semi = same_semi }

-- ---- marks, operators and words

same_bare : (t : List ℕ) → IsSame false (bare_punct t)
unfolding bare_punct
same_bare t = guarded false t (Token Punctuator (Punct None t)) refl

same_ellipsis : (bounded : Bool) (span : Span) → IsSame bounded (placed_punct span (codes "..."))
unfolding placed_punct
same_ellipsis bounded span = guarded bounded (codes "...") (Token Punctuator (Punct (Some span) (codes "..."))) refl

same_operator : (bounded : Bool) (t : List ℕ) → IsSame bounded (operator t)
unfolding operator
same_operator bounded t = guarded bounded t (Token Punctuator (Operator None t)) refl

same_word : (bounded : Bool) (t : List ℕ) → IsSame bounded (word_operator t)
unfolding word_operator
same_word bounded t = guarded bounded t (Token Word (Operator None t)) refl

same_binary : (bounded : Bool) (op : BinaryOp) → IsSame bounded (λ rest. binary_op op (allow_break rest))
unfolding binary_op
same_binary bounded op = same_then bounded (by_bool bounded (is_word_op op) (same_word bounded (binary_text op)) (same_operator bounded (binary_text op))) (same_break bounded)

same_yield : (bounded delegate : Bool) → IsSame bounded (λ rest. keyword None (codes "yield") (yield_star delegate rest))
unfolding keyword yield_star
same_yield bounded delegate = same_then bounded (guarded bounded (codes "yield") (Token Word (Keyword None (codes "yield"))) refl) (by_bool bounded delegate (same_operator bounded (codes "*")) (same_none bounded))

-- ---- templates, elements, and functions without a body

-- where no line may be ended
within_by : (part : Part) (env : Env) (max : Option ℕ) (xs : List Step) (stop : Option Unprintable) → ((rest : Plan) → part rest (at None env) ≡ chain xs (on stop rest (env_after xs (at None env)))) → (rest : Plan) → unbounded part rest (at max env) ≡ chain xs (on stop rest (env_after xs (at max env)))
unfolding with_max_line
within_by part env max xs None h rest = h (λ inner. rest (record inner { max_line = max }))
within_by part env max xs (Some r) h rest = h (λ inner. rest (record inner { max_line = max }))

same_within : (bounded : Bool) (part : Part) → IsSame false part → IsSame bounded (unbounded part)
same_within bounded part h = record {
  at_both = λ env max other.
      let x = h.at_both env None None in
      record { xs = x.xs; ys = x.ys; stop = x.stop; first = within_by part env max x.xs x.stop x.first; second = within_by part env other x.ys x.stop x.second; same = x.same };
}

same_rest : (tagged : Bool) (nodes : List AnyNode) (qs : List TplElement) → NodesHold IsSame nodes → IsSame false (tpl_rest whole_node tagged nodes qs)
unfolding tpl_rest NodesHold
same_rest tagged [] qs h = same_none false
same_rest tagged (x ∷ xs) [] h = same_none false
same_rest tagged (x ∷ xs) (q ∷ qs) h = same_then false h.0 (same_then false (tpl_element_holds same_steps_hold false (part_before tagged qs) q) (same_rest tagged xs qs h.1))

same_all : (tagged : Bool) (nodes : List AnyNode) (qs : List TplElement) → NodesHold IsSame nodes → IsSame false (tpl_all whole_node tagged nodes qs)
unfolding tpl_all
same_all tagged nodes [] h = same_none false
same_all tagged nodes (q ∷ qs) h = same_then false (tpl_element_holds same_steps_hold true (part_before tagged qs) q) (same_rest tagged nodes qs h)

same_template : (bounded tagged : Bool) (nodes : List AnyNode) (quasis : List TplElement) → NodesHold IsSame nodes → IsSame bounded (tpl_parts whole_node tagged nodes quasis)
unfolding tpl_parts
same_template bounded tagged nodes quasis h = same_within bounded (tpl_all whole_node tagged nodes quasis) (same_all tagged nodes quasis h)

same_element : (bounded : Bool) (node : AnyNode) (place : Place) (inside : Part) → is_element node ≡ true → any_items node place ≡ unbounded inside → IsSame false inside → IsSame bounded (any_items node place)
same_element bounded node place inside f q h = subst (λ z. IsSame bounded z) (sym q) (same_within bounded inside h)

same_without_body : (bounded : Bool) (node : AnyNode) (place : Place) (head : Part) → is_function node ≡ true → any_items node place ≡ (λ rest. head (bare_semi rest)) → IsSame bounded head → IsSame bounded (any_items node place)
unfolding bare_semi
same_without_body bounded node place head f q h = subst (λ z. IsSame bounded z) (sym q) (same_then bounded h (guarded bounded (codes ";") (Token Ending (Semi None)) refl))

pub same_words : OfWords IsSame
same_words = words_of same_steps_hold (record {
  bare_punct = same_bare;
  ellipsis = same_ellipsis;
  binary = same_binary;
  update_operator = λ bounded op. same_operator bounded (update_text op);
  assign_operator = λ bounded op. same_operator bounded (assign_text op);
  yield_word = same_yield;
  template = same_template;
  element = same_element;
  without_body = same_without_body;
})
