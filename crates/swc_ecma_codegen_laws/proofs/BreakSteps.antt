-- Lines may be ended right behind the marks that a part writes, and nowhere else.
use Rattle.std.proofs.Common.{◌≡◌, ℕ, Bool, true, false, not, if◌then◌else◌, ◌||◌, ◌&&◌, ◌==◌, List, [], ◌∷◌, ◌++◌, codes, Option, Some, None, refl, sym, ap, ◌∙◌, subst, append_assoc, append-nil}
use Rattle.std.proofs.lemmas.Bool.{or_parts, or_from}
use Rattle.swc_ecma_codegen_common.specs.declared.operators.AssignOp.{AssignOp}
use Rattle.swc_ecma_codegen_common.specs.declared.operators.AssignOp.TheVariants as assign
use Rattle.swc_ecma_codegen_common.specs.declared.operators.BinaryOp.{BinaryOp}
use Rattle.swc_ecma_codegen_common.specs.declared.operators.BinaryOp.TheVariants as binary
use Rattle.swc_ecma_codegen_common.specs.declared.operators.UpdateOp.{UpdateOp}
use Rattle.swc_ecma_codegen_common.specs.declared.operators.UpdateOp.TheVariants as update
use Rattle.swc_ecma_codegen_common.specs.Operators.{assign_text, binary_text, update_text}
use Rattle.swc_ecma_codegen_grammar.specs.declared.kinds.Kind.{Kind}
use Rattle.swc_ecma_codegen_grammar.specs.declared.kinds.Kind.TheVariants.{Word, Punctuator, Ending}
use Rattle.swc_ecma_codegen_grammar.specs.Texts.{is_among, is_same}
use Rattle.swc_ecma_codegen_grammar.specs.TemplatePhrases.{part_before}
use Rattle.swc_ecma_codegen_tree.specs.declared.exprs.TplElement.{TplElement}
use Rattle.swc_ecma_codegen_tree.specs.declared.links.AnyNode.{AnyNode}
use Rattle.swc_ecma_codegen_text_writer.specs.Sheet.{Item, AllowBreak, Keyword, Operator, Punct, Semi}
use Rattle.swc_ecma_codegen_tokens.specs.declared.refusals.Unprintable.{Unprintable}
use Rattle.swc_ecma_codegen_tokens.specs.Run.{Env, Part, Plan, Step, Guard, Token, Plain, Steps, next, refused, is_bounded, at_maps, after_step, maps_after, refuse, step, steps_of, unbounded, with_max_line}
use Rattle.swc_ecma_codegen_tokens.specs.Words.{allow_break, allows_break, bare_punct, bare_semi, break_where, keyword, operator, word_operator, punct, semi}
use Rattle.swc_ecma_codegen_tokens.proofs.Emission.Fronts.{is_inner_step}
use Rattle.swc_ecma_codegen_tokens.proofs.Reading.Printed.{chain, chain_append, env_after, maps_append}
use Rattle.swc_ecma_codegen_emit.specs.Places.{Place}
use Rattle.swc_ecma_codegen_emit.specs.Exprs.{binary_op, yield_star}
use Rattle.swc_ecma_codegen_emit.specs.Operands.{is_word_op}
use Rattle.swc_ecma_codegen_emit.specs.Templates.{tpl_parts, tpl_all, tpl_rest}
use Rattle.swc_ecma_codegen_emit.specs.Tree.{any_items}
use Rattle.swc_ecma_codegen_laws.specs.Breaks.{marks, operators, is_mark, is_break, is_enclosed, holds_break, IsWritten, whole_node, semicolon, EndsBehindMarks, no_more, mark, other, yield_star as star_of_yield, element, template, without_body}
use Rattle.swc_ecma_codegen_laws.specs.Enclosing.{is_element, is_function}
use Rattle.swc_ecma_codegen_laws.proofs.Children.{NodesHold}
use Rattle.swc_ecma_codegen_laws.proofs.OfSteps.{OfSteps, is_other}
use Rattle.swc_ecma_codegen_laws.proofs.StepsOfTemplates.{tpl_element_holds}

-- ---- steps, and more of them

pub holds_append : (xs ys : List Step) → holds_break xs ≡ false → holds_break ys ≡ false → holds_break (xs ++ ys) ≡ false
unfolding holds_break
holds_append [] ys h k = k
holds_append (x ∷ xs) ys h k = let p = or_parts (is_break x) (holds_break xs) h in or_from (is_break x) (holds_break (xs ++ ys)) p.0 (holds_append xs ys p.1 k)

pub ends_append : (xs ys : List Step) → EndsBehindMarks xs → EndsBehindMarks ys → EndsBehindMarks (xs ++ ys)
ends_append xs ys no_more k = k
ends_append xs ys (mark x us h e) k = mark x (us ++ ys) h (ends_append us ys e k)
ends_append xs ys (other x us h n e) k = other x (us ++ ys) h n (ends_append us ys e k)
ends_append xs ys (star_of_yield us e) k = star_of_yield (us ++ ys) (ends_append us ys e k)
ends_append xs ys (element node place us vs h w n e) k = subst EndsBehindMarks (sym (append_assoc us vs ys)) (element node place us (vs ++ ys) h w n (ends_append vs ys e k))
ends_append xs ys (template tagged nodes parts us vs w n e) k = subst EndsBehindMarks (sym (append_assoc us vs ys)) (template tagged nodes parts us (vs ++ ys) w n (ends_append vs ys e k))
ends_append xs ys (without_body node place us vs h w d e) k = subst EndsBehindMarks (sym (append_assoc us (semicolon ++ vs) ys)) (without_body node place us (vs ++ ys) h w d (ends_append vs ys e k))

-- by where they stand
abbrev pub Fits : Bool → List Step → Type 0
Fits true xs = EndsBehindMarks xs
Fits false xs = holds_break xs ≡ false

fits_none : (bounded : Bool) → Fits bounded []
unfolding holds_break
fits_none true = no_more
fits_none false = refl

fits_append : (bounded : Bool) (xs ys : List Step) → Fits bounded xs → Fits bounded ys → Fits bounded (xs ++ ys)
fits_append true xs ys h k = ends_append xs ys h k
fits_append false xs ys h k = holds_append xs ys h k

fits_other : (bounded : Bool) (x : Step) → (is_mark x || is_break x) ≡ false → is_enclosed x ≡ false → Fits bounded (x ∷ [])
unfolding holds_break
fits_other true x h n = other x [] h n no_more
fits_other false x h n = or_from (is_break x) false (or_parts (is_mark x) (is_break x) h).1 refl

-- ---- what a part writes

-- What goes on behind steps: what comes after, or a node that can't be printed.
abbrev pub on : Option Unprintable → Plan → Env → Steps
on None rest env = rest env
on (Some r) rest env = refused r

pub record WritesAt (fits : List Step → Type 0) (env : Env) (part : Part) : Type 0 where
  pub steps : List Step
  pub stop : Option Unprintable
  pub is_steps : (rest : Plan) → part rest env ≡ chain steps (on stop rest (env_after steps env))
  pub fit : fits steps

pub record Breaks (bounded : Bool) (part : Part) : Type 0 where
  pub at : (env : Env) → is_bounded env ≡ bounded → WritesAt (Fits bounded) env part

pub breaks_none : (bounded : Bool) → Breaks bounded (λ rest. rest)
unfolding chain maps_after
breaks_none bounded = record { at = λ env e. record { steps = []; stop = None; is_steps = λ rest. refl; fit = fits_none bounded } }

then_by : (bounded : Bool) (env : Env) (p q : Part) (xs : List Step) (stop : Option Unprintable) → ((rest : Plan) → p rest env ≡ chain xs (on stop rest (env_after xs env))) → Fits bounded xs → WritesAt (Fits bounded) (env_after xs env) q → WritesAt (Fits bounded) env (λ rest. p (q rest))
then_by bounded env p q xs (Some r) is fit k = record { steps = xs; stop = Some r; is_steps = λ rest. is (q rest); fit = fit }
then_by bounded env p q xs None is fit k = record {
  steps = xs ++ k.steps;
  stop = k.stop;
  is_steps = λ rest.
      is (q rest) ∙ ap (chain xs) (k.is_steps rest) ∙ sym (chain_append xs k.steps (on k.stop rest (env_after k.steps (env_after xs env))))
      ∙ ap (λ z. chain (xs ++ k.steps) (on k.stop rest (at_maps z env))) (sym (maps_append xs k.steps env.maps));
  fit = fits_append bounded xs k.steps fit k.fit;
}

pub breaks_then : (bounded : Bool) {p q : Part} → Breaks bounded p → Breaks bounded q → Breaks bounded (λ rest. p (q rest))
breaks_then bounded {p} {q} h k = record { at = λ env e. let x = h.at env e in then_by bounded env p q x.steps x.stop x.is_steps x.fit (k.at (env_after x.steps env) e) }

pub breaks_refuse : (bounded : Bool) (r : Unprintable) → Breaks bounded (refuse r)
unfolding chain refuse
breaks_refuse bounded r = record { at = λ env e. record { steps = []; stop = Some r; is_steps = λ rest. refl; fit = fits_none bounded } }

breaks_by_env : (bounded : Bool) (ask : Env → Part) → ((now : Env) → Breaks bounded (ask now)) → Breaks bounded (λ rest env. ask (record env { max_line = None }) rest env)
breaks_by_env bounded ask h = record { at = λ env e. let x = (h (record env { max_line = None })).at env e in record { steps = x.steps; stop = x.stop; is_steps = x.is_steps; fit = x.fit } }

-- some steps
steps_break : (bounded : Bool) (part : Part) (xs : List Step) → ((rest : Plan) (env : Env) → is_bounded env ≡ bounded → part rest env ≡ chain xs (rest (env_after xs env))) → Fits bounded xs → Breaks bounded part
steps_break bounded part xs h fit = record { at = λ env e. record { steps = xs; stop = None; is_steps = λ rest. h rest env e; fit = fit } }

one_step : (bounded : Bool) (x : Step) → (is_mark x || is_break x) ≡ false → is_enclosed x ≡ false → Breaks bounded (step x)
unfolding chain step maps_after
one_step bounded x h n = steps_break bounded (step x) (x ∷ []) (λ rest env e. refl) (fits_other bounded x h n)

neither : (a b : Bool) → (not a && b) ≡ true → a ≡ false
neither true b h = absurd (cc)
neither false b h = refl

second : (a b : Bool) → (not a && b) ≡ true → b ≡ true
second true b h = absurd (cc)
second false b h = h

breaks_step : (bounded : Bool) (x : Step) → is_other x ≡ true → Breaks bounded (step x)
unfolding is_other
breaks_step bounded x h =
    let more : Bool = not (is_enclosed x) && is_inner_step x in
    one_step bounded x (neither (is_mark x || is_break x) more h) (neither (is_enclosed x) (is_inner_step x) (second (is_mark x || is_break x) more h))

-- none of those that are written in templates and elements alone says that a line may be ended
no_break : (x : Step) → is_enclosed x ≡ true → is_break x ≡ false
unfolding is_break
no_break (Plain AllowBreak) h = absurd (cc)
no_break x h = refl

breaks_enclosed : (x : Step) → is_enclosed x ≡ true → is_inner_step x ≡ true → Breaks false (step x)
unfolding chain step maps_after holds_break
breaks_enclosed x h i = steps_break false (step x) (x ∷ []) (λ rest env e. refl) (or_from (is_break x) false (no_break x h) refl)

-- ---- marks

-- the break behind a mark, where lines are bounded
abbrev pub behind : Bool → List Step
behind bounded = if bounded then Plain AllowBreak ∷ [] else []

pub broken : (bounded : Bool) (rest : Plan) (env : Env) → is_bounded env ≡ bounded → allow_break rest env ≡ chain (behind bounded) (rest env)
unfolding allow_break break_where step chain after_step
broken true rest env e = ap (λ b. break_where b rest env) e
broken false rest env e = ap (λ b. break_where b rest env) e

fits_mark : (bounded : Bool) (t : List ℕ) (x : Step) → is_mark x ≡ true → is_break x ≡ false → Fits bounded (Guard t ∷ x ∷ behind bounded)
unfolding is_mark is_break holds_break
fits_mark true t x h k = other (Guard t) (x ∷ Plain AllowBreak ∷ []) refl refl (mark x [] h no_more)
fits_mark false t x h k = or_from (is_break x) false k refl

marked_tail : (b : Bool) (t : List ℕ) (kind : Kind) (item : Item) (rest : Plan) (env : Env) → next (Guard t) (next (Token kind item) (chain (behind b) (rest env))) ≡ chain (Guard t ∷ Token kind item ∷ behind b) (rest (env_after (Guard t ∷ Token kind item ∷ behind b) env))
unfolding chain maps_after after_step
marked_tail true t kind item rest env = refl
marked_tail false t kind item rest env = refl

-- a mark, and the place behind it
marked : (bounded : Bool) (t : List ℕ) (kind : Kind) (item : Item) → is_mark (Token kind item) ≡ true → Breaks bounded (λ rest. step (Guard t) (step (Token kind item) (allow_break rest)))
unfolding step chain maps_after after_step is_break
marked bounded t kind item h = steps_break bounded (λ rest. step (Guard t) (step (Token kind item) (allow_break rest))) (Guard t ∷ Token kind item ∷ behind bounded) (λ rest env e. ap (λ z. next (Guard t) (next (Token kind item) z)) (broken bounded rest env e) ∙ marked_tail bounded t kind item rest env) (fits_mark bounded t (Token kind item) h refl)

pub unmarked : (bounded : Bool) (t : List ℕ) (x : Step) → (is_mark x || is_break x) ≡ false → is_enclosed x ≡ false → Breaks bounded (λ rest. step (Guard t) (step x rest))
unfolding is_mark is_break
unmarked bounded t x h n = breaks_then bounded (one_step bounded (Guard t) refl refl) (one_step bounded x h n)

-- the five marks of `punct`
of_two : (a b c d e : Bool) → ((a && true) || ((b && true) || ((c && true) || ((d && true) || ((e && true) || false))))) ≡ (a || (b || (c || (d || e))))
of_two true b c d e = refl
of_two false true c d e = refl
of_two false false true d e = refl
of_two false false false true e = refl
of_two false false false false true = refl
of_two false false false false false = refl

zero : (a : Bool) → (a && false) ≡ false
zero true = refl
zero false = refl

none_of : (a b c d e : Bool) → ((a && false) || ((b && false) || ((c && false) || ((d && false) || ((e && false) || false))))) ≡ false
none_of a b c d e = or_from (a && false) _ (zero a) (or_from (b && false) _ (zero b) (or_from (c && false) _ (zero c) (or_from (d && false) _ (zero d) (or_from (e && false) false (zero e) refl))))

among_marks : (t : List ℕ) → is_among t marks ≡ allows_break t
unfolding is_among is_same
among_marks [] = refl
among_marks (c ∷ []) = of_two (c == 40) (c == 44) (c == 59) (c == 91) (c == 123)
among_marks (c ∷ d ∷ cs) = none_of (c == 40) (c == 44) (c == 59) (c == 91) (c == 123)

punct_by : (bounded b : Bool) (t : List ℕ) → allows_break t ≡ b → Breaks bounded (λ rest. step (Guard t) (step (Token Punctuator (Punct None t)) (if b then allow_break rest else rest)))
unfolding is_mark is_break
punct_by bounded true t h = marked bounded t Punctuator (Punct None t) (among_marks t ∙ h)
punct_by bounded false t h = unmarked bounded t (Token Punctuator (Punct None t)) (or_from (is_among t marks) false (among_marks t ∙ h) refl) refl

pub breaks_punct : (bounded : Bool) (t : List ℕ) → Breaks bounded (punct t)
unfolding punct bare_punct
breaks_punct bounded t = punct_by bounded (allows_break t) t refl

pub breaks_semi : (bounded : Bool) → Breaks bounded semi
unfolding semi bare_semi is_mark
breaks_semi bounded = marked bounded (codes ";") Ending (Semi None) refl

pub break_steps : OfSteps Breaks
break_steps = record { none = breaks_none; and_then = breaks_then; refuse = breaks_refuse; by_env = breaks_by_env; step = breaks_step; enclosed = breaks_enclosed; punct = breaks_punct; semi = breaks_semi }

-- ---- operators

pub breaks_bare_punct : (t : List ℕ) → Breaks false (bare_punct t)
unfolding bare_punct step chain maps_after after_step holds_break is_break
breaks_bare_punct t = steps_break false (bare_punct t) (Guard t ∷ Token Punctuator (Punct None t) ∷ []) (λ rest env e. refl) refl

operator_breaks : (bounded : Bool) (t : List ℕ) → is_among t operators ≡ true → Breaks bounded (λ rest. operator t (allow_break rest))
unfolding operator is_mark
operator_breaks bounded t h = marked bounded t Punctuator (Operator None t) h

word_breaks : (bounded : Bool) (t : List ℕ) → Breaks bounded (λ rest. word_operator t (allow_break rest))
unfolding word_operator is_mark
word_breaks bounded t = marked bounded t Word (Operator None t) refl

pub breaks_binary : (bounded : Bool) (op : BinaryOp) → Breaks bounded (λ rest. binary_op op (allow_break rest))
unfolding binary_op is_word_op binary_text is_among is_same
breaks_binary bounded binary.In = word_breaks bounded (codes "in")
breaks_binary bounded binary.InstanceOf = word_breaks bounded (codes "instanceof")
breaks_binary bounded binary.EqEq = operator_breaks bounded (codes "==") refl
breaks_binary bounded binary.NotEq = operator_breaks bounded (codes "!=") refl
breaks_binary bounded binary.EqEqEq = operator_breaks bounded (codes "===") refl
breaks_binary bounded binary.NotEqEq = operator_breaks bounded (codes "!==") refl
breaks_binary bounded binary.Lt = operator_breaks bounded (codes "<") refl
breaks_binary bounded binary.LtEq = operator_breaks bounded (codes "<=") refl
breaks_binary bounded binary.Gt = operator_breaks bounded (codes ">") refl
breaks_binary bounded binary.GtEq = operator_breaks bounded (codes ">=") refl
breaks_binary bounded binary.LShift = operator_breaks bounded (codes "<<") refl
breaks_binary bounded binary.RShift = operator_breaks bounded (codes ">>") refl
breaks_binary bounded binary.ZeroFillRShift = operator_breaks bounded (codes ">>>") refl
breaks_binary bounded binary.Add = operator_breaks bounded (codes "+") refl
breaks_binary bounded binary.Sub = operator_breaks bounded (codes "-") refl
breaks_binary bounded binary.Mul = operator_breaks bounded (codes "*") refl
breaks_binary bounded binary.Div = operator_breaks bounded (codes "/") refl
breaks_binary bounded binary.Mod = operator_breaks bounded (codes "%") refl
breaks_binary bounded binary.BitOr = operator_breaks bounded (codes "|") refl
breaks_binary bounded binary.BitXor = operator_breaks bounded (codes "^") refl
breaks_binary bounded binary.BitAnd = operator_breaks bounded (codes "&") refl
breaks_binary bounded binary.LogicalOr = operator_breaks bounded (codes "||") refl
breaks_binary bounded binary.LogicalAnd = operator_breaks bounded (codes "&&") refl
breaks_binary bounded binary.Exp = operator_breaks bounded (codes "**") refl
breaks_binary bounded binary.NullishCoalescing = operator_breaks bounded (codes "??") refl

no_operand : (bounded : Bool) (t : List ℕ) → is_among t operators ≡ false → Breaks bounded (operator t)
unfolding operator is_mark is_break
no_operand bounded t h = unmarked bounded t (Token Punctuator (Operator None t)) (or_from (is_among t operators) false h refl) refl

pub breaks_update : (bounded : Bool) (op : UpdateOp) → Breaks bounded (operator (update_text op))
unfolding update_text is_among is_same
breaks_update bounded update.PlusPlus = no_operand bounded (codes "++") refl
breaks_update bounded update.MinusMinus = no_operand bounded (codes "--") refl

pub breaks_assign : (bounded : Bool) (op : AssignOp) → Breaks bounded (operator (assign_text op))
unfolding assign_text is_among is_same
breaks_assign bounded assign.Assign = no_operand bounded (codes "=") refl
breaks_assign bounded assign.AddAssign = no_operand bounded (codes "+=") refl
breaks_assign bounded assign.SubAssign = no_operand bounded (codes "-=") refl
breaks_assign bounded assign.MulAssign = no_operand bounded (codes "*=") refl
breaks_assign bounded assign.DivAssign = no_operand bounded (codes "/=") refl
breaks_assign bounded assign.ModAssign = no_operand bounded (codes "%=") refl
breaks_assign bounded assign.LShiftAssign = no_operand bounded (codes "<<=") refl
breaks_assign bounded assign.RShiftAssign = no_operand bounded (codes ">>=") refl
breaks_assign bounded assign.ZeroFillRShiftAssign = no_operand bounded (codes ">>>=") refl
breaks_assign bounded assign.BitOrAssign = no_operand bounded (codes "|=") refl
breaks_assign bounded assign.BitXorAssign = no_operand bounded (codes "^=") refl
breaks_assign bounded assign.BitAndAssign = no_operand bounded (codes "&=") refl
breaks_assign bounded assign.ExpAssign = no_operand bounded (codes "**=") refl
breaks_assign bounded assign.AndAssign = no_operand bounded (codes "&&=") refl
breaks_assign bounded assign.OrAssign = no_operand bounded (codes "||=") refl
breaks_assign bounded assign.NullishAssign = no_operand bounded (codes "??=") refl

fits_yield : (b : Bool) → Fits b (Guard (codes "yield") ∷ Token Word (Keyword None (codes "yield")) ∷ Guard (codes "*") ∷ Token Punctuator (Operator None (codes "*")) ∷ [])
unfolding is_mark is_break holds_break
fits_yield true = other (Guard (codes "yield")) _ refl refl (star_of_yield [] no_more)
fits_yield false = refl

-- `yield` and `yield*`
pub breaks_yield : (bounded delegate : Bool) → Breaks bounded (λ rest. keyword None (codes "yield") (yield_star delegate rest))
unfolding keyword operator yield_star step chain maps_after after_step is_mark is_break holds_break
breaks_yield bounded false = unmarked bounded (codes "yield") (Token Word (Keyword None (codes "yield"))) refl refl
breaks_yield bounded true = steps_break bounded (λ rest. keyword None (codes "yield") (operator (codes "*") rest)) (Guard (codes "yield") ∷ Token Word (Keyword None (codes "yield")) ∷ Guard (codes "*") ∷ Token Punctuator (Operator None (codes "*")) ∷ []) (λ rest env e. refl) (fits_yield bounded)

-- ---- templates, elements, and functions without a body

pub steps_on : (xs : List Step) (more : Steps) → steps_of (chain xs more) ≡ xs ++ steps_of more
unfolding steps_of chain
steps_on [] more = refl
steps_on (x ∷ xs) more = ap (λ z. x ∷ z) (steps_on xs more)

written_by : (part : Part) (env : Env) (xs : List Step) (stop : Option Unprintable) → ((rest : Plan) → part rest env ≡ chain xs (on stop rest (env_after xs env))) → IsWritten part xs
unfolding steps_of
written_by part env xs None h = record { env = env; goes_on = true; is_steps = λ rest. ap steps_of (h rest) ∙ steps_on xs (rest (env_after xs env)) }
written_by part env xs (Some r) h = record { env = env; goes_on = false; is_steps = λ rest. ap steps_of (h rest) ∙ steps_on xs (refused r) }

-- where no line may be ended
unbounded_by : (part : Part) (env : Env) (xs : List Step) (stop : Option Unprintable) → ((rest : Plan) → part rest (record env { max_line = None }) ≡ chain xs (on stop rest (env_after xs (record env { max_line = None })))) → (rest : Plan) → unbounded part rest env ≡ chain xs (on stop rest (env_after xs env))
unfolding with_max_line
unbounded_by part env xs None h rest = h (λ inner. rest (record inner { max_line = env.max_line }))
unbounded_by part env xs (Some r) h rest = h (λ inner. rest (record inner { max_line = env.max_line }))

fits_within : (bounded : Bool) (xs : List Step) → holds_break xs ≡ false → (EndsBehindMarks [] → EndsBehindMarks (xs ++ [])) → Fits bounded xs
fits_within true xs h k = subst EndsBehindMarks (append-nil xs) (k no_more)
fits_within false xs h k = h

-- a part in which no line may be ended
within : (bounded : Bool) (whole part : Part) → whole ≡ unbounded part → Breaks false part → ((xs : List Step) → IsWritten whole xs → holds_break xs ≡ false → EndsBehindMarks [] → EndsBehindMarks (xs ++ [])) → Breaks bounded whole
within bounded whole part q h k = record {
  at = λ env e.
      let x = h.at (record env { max_line = None }) refl in
      let is = λ (rest : Plan). ap (λ z. z rest env) q ∙ unbounded_by part env x.steps x.stop x.is_steps rest in
      record { steps = x.steps; stop = x.stop; is_steps = is; fit = fits_within bounded x.steps x.fit (k x.steps (written_by whole env x.steps x.stop is) x.fit) };
}

rest_breaks : (tagged : Bool) (nodes : List AnyNode) (qs : List TplElement) → NodesHold Breaks nodes → Breaks false (tpl_rest whole_node tagged nodes qs)
unfolding tpl_rest NodesHold
rest_breaks tagged [] qs h = breaks_none false
rest_breaks tagged (x ∷ xs) [] h = breaks_none false
rest_breaks tagged (x ∷ xs) (q ∷ qs) h = breaks_then false h.0 (breaks_then false (tpl_element_holds break_steps false (part_before tagged qs) q) (rest_breaks tagged xs qs h.1))

all_break : (tagged : Bool) (nodes : List AnyNode) (qs : List TplElement) → NodesHold Breaks nodes → Breaks false (tpl_all whole_node tagged nodes qs)
unfolding tpl_all
all_break tagged nodes [] h = breaks_none false
all_break tagged nodes (q ∷ qs) h = breaks_then false (tpl_element_holds break_steps true (part_before tagged qs) q) (rest_breaks tagged nodes qs h)

pub breaks_template : (bounded tagged : Bool) (nodes : List AnyNode) (quasis : List TplElement) → NodesHold Breaks nodes → Breaks bounded (tpl_parts whole_node tagged nodes quasis)
unfolding tpl_parts
breaks_template bounded tagged nodes quasis h = within bounded (tpl_parts whole_node tagged nodes quasis) (tpl_all whole_node tagged nodes quasis) refl (all_break tagged nodes quasis h) (λ xs w n e. template tagged nodes quasis xs [] w n e)

pub breaks_element : (bounded : Bool) (node : AnyNode) (place : Place) (inside : Part) → is_element node ≡ true → any_items node place ≡ unbounded inside → Breaks false inside → Breaks bounded (any_items node place)
breaks_element bounded node place inside h q k = within bounded (any_items node place) inside q k (λ xs w n e. element node place xs [] h w n e)

fits_bodiless : (b : Bool) (node : AnyNode) (place : Place) (xs : List Step) → is_function node ≡ true → IsWritten (any_items node place) (xs ++ semicolon) → Fits b xs → Fits b (xs ++ semicolon)
unfolding is_break holds_break
fits_bodiless true node place xs f w fit = without_body node place xs [] f w fit no_more
fits_bodiless false node place xs f w fit = holds_append xs semicolon fit refl

-- the semicolon in place of a body
bodiless_by : (bounded : Bool) (node : AnyNode) (place : Place) (head : Part) → is_function node ≡ true → any_items node place ≡ (λ rest. head (bare_semi rest)) → (env : Env) (xs : List Step) (stop : Option Unprintable) → ((rest : Plan) → head rest env ≡ chain xs (on stop rest (env_after xs env))) → Fits bounded xs → WritesAt (Fits bounded) env (any_items node place)
unfolding bare_semi step chain maps_after after_step is_break holds_break
bodiless_by bounded node place head f q env xs (Some r) is fit = record { steps = xs; stop = Some r; is_steps = λ rest. ap (λ z. z rest env) q ∙ is (bare_semi rest); fit = fit }
bodiless_by bounded node place head f q env xs None is fit =
    let is_all = λ (rest : Plan). ap (λ z. z rest env) q ∙ is (bare_semi rest) ∙ sym (chain_append xs semicolon (rest (env_after xs env))) ∙ ap (λ z. chain (xs ++ semicolon) (rest (at_maps z env))) (sym (maps_append xs semicolon env.maps)) in
    record {
      steps = xs ++ semicolon;
      stop = None;
      is_steps = is_all;
      fit = fits_bodiless bounded node place xs f (written_by (any_items node place) env (xs ++ semicolon) None is_all) fit;
    }

pub breaks_without_body : (bounded : Bool) (node : AnyNode) (place : Place) (head : Part) → is_function node ≡ true → any_items node place ≡ (λ rest. head (bare_semi rest)) → Breaks bounded head → Breaks bounded (any_items node place)
breaks_without_body bounded node place head f q h = record { at = λ env e. let x = h.at env e in bodiless_by bounded node place head f q env x.steps x.stop x.is_steps x.fit }
