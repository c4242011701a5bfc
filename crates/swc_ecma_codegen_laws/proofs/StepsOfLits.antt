-- Lits: a law of the words holds of the plan.
use Rattle.swc_ecma_codegen_laws.specs.Breaks.{is_mark, is_break}
use Rattle.swc_ecma_codegen_laws.proofs.OfSteps.{is_other}
use Rattle.std.proofs.Common.{refl}
use Rattle.std.specs.Prelude.{ℕ, ◌-◌, Bool, true, false, not, nat_lt, List, codes, Some, None, string_bytes}
use Rattle.std.specs.Str.{chars}
use Rattle.swc_ecma_codegen_common.specs.declared.positions.BytePos.{BytePos}
use Rattle.swc_ecma_codegen_common.specs.declared.positions.Span.{Span}
use Rattle.swc_ecma_codegen_tree.specs.declared.lits.Lit.{Lit}
use Rattle.swc_ecma_codegen_tree.specs.declared.lits.Lit.TheVariants as lits
use Rattle.swc_ecma_codegen_tree.specs.declared.lits.Str.{Str}
use Rattle.swc_ecma_codegen_tree.specs.declared.lits.Bool as tree_bool
use Rattle.swc_ecma_codegen_tree.specs.declared.lits.Null.{Null}
use Rattle.swc_ecma_codegen_tree.specs.declared.lits.Number.{Number}
use Rattle.swc_ecma_codegen_tree.specs.declared.lits.NumberValue.{NumberValue}
use Rattle.swc_ecma_codegen_tree.specs.declared.lits.NumberValue.TheVariants.{Infinity, NegInfinity}
use Rattle.swc_ecma_codegen_tree.specs.declared.lits.BigInt.{BigInt}
use Rattle.swc_ecma_codegen_tree.specs.declared.lits.Regex.{Regex}
use Rattle.swc_ecma_codegen_spans.specs.Spans.{dummy_span}
use Rattle.swc_ecma_codegen_grammar.specs.Numbers.{takes_dot}
use Rattle.swc_ecma_codegen_tokens.specs.Run.{Part, step, Remake}
use Rattle.swc_ecma_codegen_tokens.specs.Literals.{size_of}
use Rattle.swc_ecma_codegen_laws.proofs.OfSteps.{OfSteps, either}
use Rattle.swc_ecma_codegen_tokens.specs.Lits.{begun_in, is_directive, prints_raw, string_text, directive_end, string_by, string_at, str_lit, bool_text, bool_lit, bool_node, null_lit, number_text, makes_number, is_named, infinity_text, infinity, not_a_number, named_number, number_by, spelled_number, number_at, number_lit, between_dots, before_property, object_by, spelled_object, number_object, prints_big_raw, big_int_text, makes_big_int, big_int_parts, big_int_by, big_int_at, big_int_lit, regex_lit, lit}
use Rattle.swc_ecma_codegen_laws.proofs.StepsOfLiterals.{begun_holds, big_digits_holds, big_integer_holds, dotted_number_holds, number_holds, number_name_holds, regex_holds, settled_begun_holds, sign_holds, string_holds}
use Rattle.swc_ecma_codegen_laws.proofs.StepsOfWords.{commit_pending_semi_holds, end_of_holds, keyword_holds, leading_comments_holds}

pub begun_in_holds : {holds : Bool → Part → Type 0} (words : OfSteps holds) (bounded : Bool) (in_lit : Bool) (span : Span) (t : List ℕ) → holds bounded (begun_in in_lit span t)
unfolding begun_in
begun_in_holds words bounded in_lit span t = either words bounded in_lit (begun_holds words bounded span t) (words.none bounded)

pub directive_end_holds : {holds : Bool → Part → Type 0} (words : OfSteps holds) (bounded : Bool) (n : Str) → holds bounded (directive_end n)
unfolding directive_end
directive_end_holds words bounded n = either words bounded (is_directive n) (end_of_holds words bounded n.span) (words.none bounded)

pub string_by_holds : {holds : Bool → Part → Type 0} (words : OfSteps holds) (bounded : Bool) (in_lit : Bool) (n : Str) (t : List ℕ) → holds bounded (string_by in_lit n t)
unfolding string_by
string_by_holds words bounded in_lit n t = words.and_then bounded (begun_in_holds words bounded in_lit n.span t) (words.and_then bounded (settled_begun_holds words bounded n.span t) (words.and_then bounded (string_holds words bounded t) (directive_end_holds words bounded n)))

pub string_at_holds : {holds : Bool → Part → Type 0} (words : OfSteps holds) (bounded : Bool) (in_lit : Bool) (n : Str) → holds bounded (string_at in_lit n)
unfolding string_at is_other is_mark is_break
string_at_holds words bounded in_lit n = words.by_env bounded (λ now rest. step (Remake (not (prints_raw now.config n))) (string_by in_lit n (string_text now.config n) rest)) (λ now. (words.and_then bounded (words.step bounded (Remake (not (prints_raw now.config n))) refl) (string_by_holds words bounded in_lit n (string_text now.config n))))

pub str_lit_holds : {holds : Bool → Part → Type 0} (words : OfSteps holds) (bounded : Bool) (n : Str) → holds bounded (str_lit n)
str_lit_holds words bounded n = string_at_holds words bounded false n

pub bool_lit_holds : {holds : Bool → Part → Type 0} (words : OfSteps holds) (bounded : Bool) (n : tree_bool.Bool) → holds bounded (bool_lit n)
unfolding bool_lit
bool_lit_holds words bounded n = keyword_holds words bounded None (bool_text n.value)

pub bool_node_holds : {holds : Bool → Part → Type 0} (words : OfSteps holds) (bounded : Bool) (n : tree_bool.Bool) → holds bounded (bool_node n)
unfolding bool_node
bool_node_holds words bounded n = words.and_then bounded (leading_comments_holds words bounded n.span.lo) (keyword_holds words bounded (Some n.span) (bool_text n.value))

pub null_lit_holds : {holds : Bool → Part → Type 0} (words : OfSteps holds) (bounded : Bool) (n : Null) → holds bounded (null_lit n)
unfolding null_lit
null_lit_holds words bounded n = keyword_holds words bounded None (codes "null")

pub infinity_holds : {holds : Bool → Part → Type 0} (words : OfSteps holds) (bounded : Bool) (in_lit : Bool) (negative : Bool) (span : Span) → holds bounded (infinity in_lit negative span)
unfolding infinity
infinity_holds words bounded in_lit negative span = words.and_then bounded (begun_in_holds words bounded in_lit span (infinity_text negative)) (words.and_then bounded (commit_pending_semi_holds words bounded) (words.and_then bounded (leading_comments_holds words bounded span.lo) (words.and_then bounded (sign_holds words bounded negative span) (number_name_holds words bounded span (codes "Infinity")))))

pub not_a_number_holds : {holds : Bool → Part → Type 0} (words : OfSteps holds) (bounded : Bool) (in_lit : Bool) (span : Span) → holds bounded (not_a_number in_lit span)
unfolding not_a_number
not_a_number_holds words bounded in_lit span = words.and_then bounded (begun_in_holds words bounded in_lit span (codes "NaN")) (words.and_then bounded (settled_begun_holds words bounded span (codes "NaN")) (number_name_holds words bounded dummy_span (codes "NaN")))

pub named_number_holds : {holds : Bool → Part → Type 0} (words : OfSteps holds) (bounded : Bool) (in_lit : Bool) (span : Span) (v : NumberValue) → holds bounded (named_number in_lit span v)
unfolding named_number
named_number_holds words bounded in_lit span Infinity = infinity_holds words bounded in_lit false span
named_number_holds words bounded in_lit span NegInfinity = infinity_holds words bounded in_lit true span
named_number_holds words bounded in_lit span v = not_a_number_holds words bounded in_lit span

pub number_by_holds : {holds : Bool → Part → Type 0} (words : OfSteps holds) (bounded : Bool) (in_lit : Bool) (span : Span) (t : List ℕ) → holds bounded (number_by in_lit span t)
unfolding number_by
number_by_holds words bounded in_lit span t = words.and_then bounded (begun_in_holds words bounded in_lit span t) (words.and_then bounded (settled_begun_holds words bounded span t) (number_holds words bounded t))

pub spelled_number_holds : {holds : Bool → Part → Type 0} (words : OfSteps holds) (bounded : Bool) (in_lit : Bool) (n : Number) → holds bounded (spelled_number in_lit n)
unfolding spelled_number is_other is_mark is_break
spelled_number_holds words bounded in_lit n = words.by_env bounded (λ now rest. step (Remake (makes_number now.config n)) (number_by in_lit n.span (number_text now.config n) rest)) (λ now. (words.and_then bounded (words.step bounded (Remake (makes_number now.config n)) refl) (number_by_holds words bounded in_lit n.span (number_text now.config n))))

pub number_at_holds : {holds : Bool → Part → Type 0} (words : OfSteps holds) (bounded : Bool) (in_lit : Bool) (n : Number) → holds bounded (number_at in_lit n)
unfolding number_at
number_at_holds words bounded in_lit n = either words bounded (is_named n) (named_number_holds words bounded in_lit n.span n.value) (spelled_number_holds words bounded in_lit n)

pub number_lit_holds : {holds : Bool → Part → Type 0} (words : OfSteps holds) (bounded : Bool) (n : Number) → holds bounded (number_lit n)
number_lit_holds words bounded n = number_at_holds words bounded false n

pub between_dots_holds : {holds : Bool → Part → Type 0} (words : OfSteps holds) (bounded : Bool) (pos : BytePos) → holds bounded (between_dots pos)
unfolding between_dots
between_dots_holds words bounded pos = either words bounded (nat_lt pos.0 2) (words.none bounded) (leading_comments_holds words bounded (record { 0 = pos.0 - 2 }))

pub before_property_holds : {holds : Bool → Part → Type 0} (words : OfSteps holds) (bounded : Bool) (t : List ℕ) (pos : BytePos) → holds bounded (before_property t pos)
unfolding before_property
before_property_holds words bounded t pos = either words bounded (takes_dot (chars (size_of t))) (words.and_then bounded (dotted_number_holds words bounded t) (between_dots_holds words bounded pos)) (number_holds words bounded t)

pub object_by_holds : {holds : Bool → Part → Type 0} (words : OfSteps holds) (bounded : Bool) (span : Span) (pos : BytePos) (t : List ℕ) → holds bounded (object_by span pos t)
unfolding object_by
object_by_holds words bounded span pos t = words.and_then bounded (settled_begun_holds words bounded span t) (before_property_holds words bounded t pos)

pub spelled_object_holds : {holds : Bool → Part → Type 0} (words : OfSteps holds) (bounded : Bool) (n : Number) (pos : BytePos) → holds bounded (spelled_object n pos)
unfolding spelled_object is_other is_mark is_break
spelled_object_holds words bounded n pos = words.by_env bounded (λ now rest. step (Remake (makes_number now.config n)) (object_by n.span pos (number_text now.config n) rest)) (λ now. (words.and_then bounded (words.step bounded (Remake (makes_number now.config n)) refl) (object_by_holds words bounded n.span pos (number_text now.config n))))

pub number_object_holds : {holds : Bool → Part → Type 0} (words : OfSteps holds) (bounded : Bool) (n : Number) (pos : BytePos) → holds bounded (number_object n pos)
unfolding number_object
number_object_holds words bounded n pos = either words bounded (is_named n) (named_number_holds words bounded false n.span n.value) (spelled_object_holds words bounded n pos)

pub big_int_parts_holds : {holds : Bool → Part → Type 0} (words : OfSteps holds) (bounded : Bool) (whole : Bool) (span : Span) (t : List ℕ) → holds bounded (big_int_parts whole span t)
unfolding big_int_parts
big_int_parts_holds words bounded whole span t = either words bounded whole (big_integer_holds words bounded span t) (big_digits_holds words bounded span t)

pub big_int_by_holds : {holds : Bool → Part → Type 0} (words : OfSteps holds) (bounded : Bool) (in_lit : Bool) (whole : Bool) (span : Span) (t : List ℕ) → holds bounded (big_int_by in_lit whole span t)
unfolding big_int_by
big_int_by_holds words bounded in_lit whole span t = words.and_then bounded (begun_in_holds words bounded in_lit span t) (words.and_then bounded (leading_comments_holds words bounded span.lo) (big_int_parts_holds words bounded whole span t))

pub big_int_at_holds : {holds : Bool → Part → Type 0} (words : OfSteps holds) (bounded : Bool) (in_lit : Bool) (n : BigInt) → holds bounded (big_int_at in_lit n)
unfolding big_int_at is_other is_mark is_break
big_int_at_holds words bounded in_lit n = words.by_env bounded (λ now rest. step (Remake (makes_big_int now.config n)) (big_int_by in_lit (prints_big_raw now.config n) n.span (big_int_text now.config n) rest)) (λ now. (words.and_then bounded (words.step bounded (Remake (makes_big_int now.config n)) refl) (big_int_by_holds words bounded in_lit (prints_big_raw now.config n) n.span (big_int_text now.config n))))

pub big_int_lit_holds : {holds : Bool → Part → Type 0} (words : OfSteps holds) (bounded : Bool) (n : BigInt) → holds bounded (big_int_lit n)
big_int_lit_holds words bounded n = big_int_at_holds words bounded false n

pub regex_lit_holds : {holds : Bool → Part → Type 0} (words : OfSteps holds) (bounded : Bool) (n : Regex) → holds bounded (regex_lit n)
unfolding regex_lit
regex_lit_holds words bounded n = regex_holds words bounded (string_bytes n.exp) (string_bytes n.flags)

pub lit_holds : {holds : Bool → Part → Type 0} (words : OfSteps holds) (bounded : Bool) (x0 : Lit) → holds bounded (lit x0)
unfolding lit
lit_holds words bounded (lits.Str n) = string_at_holds words bounded true n
lit_holds words bounded (lits.Bool n) = words.and_then bounded (begun_holds words bounded n.span (bool_text n.value)) (bool_lit_holds words bounded n)
lit_holds words bounded (lits.Null n) = words.and_then bounded (begun_holds words bounded n.span (codes "null")) (null_lit_holds words bounded n)
lit_holds words bounded (lits.Num n) = number_at_holds words bounded true n.value
lit_holds words bounded (lits.BigInt n) = big_int_at_holds words bounded true n.value
lit_holds words bounded (lits.Regex n) = words.and_then bounded (begun_holds words bounded n.span (codes "/")) (regex_lit_holds words bounded n)
lit_holds words bounded (lits.JSXText n) = words.none bounded
