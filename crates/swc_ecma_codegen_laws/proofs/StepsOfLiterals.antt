-- Literals: a law of the words holds of the plan.
use Rattle.swc_ecma_codegen_laws.specs.Breaks.{is_mark, is_break}
use Rattle.swc_ecma_codegen_laws.proofs.OfSteps.{is_other}
use Rattle.std.proofs.Common.{refl}
use Rattle.std.specs.Prelude.{ℕ, Bool, List, [], ◌∷◌, ◌++◌, codes, None}
use Rattle.swc_ecma_codegen_common.specs.declared.positions.Span.{Span}
use Rattle.swc_ecma_codegen_spans.specs.Spans.{dummy_span}
use Rattle.swc_ecma_codegen_grammar.specs.declared.kinds.Kind.TheVariants.{Name, Punctuator, Number, BigInt, Str, Regex, Hashbang}
use Rattle.swc_ecma_codegen_text_writer.specs.Sheet as calls
use Rattle.swc_ecma_codegen_text_writer.specs.Sheet.{Lit, StrLit, Punct}
use Rattle.swc_ecma_codegen_tokens.specs.Run.{Part, Guard, Token, Plain, Ends}
use Rattle.swc_ecma_codegen_laws.proofs.OfSteps.{OfSteps, either}
use Rattle.swc_ecma_codegen_tokens.specs.Literals.{begun, settled_begun, string, signed, number, dotted_number, sign, number_name, big_digits, big_integer, regex_text, regex, hashbang}
use Rattle.swc_ecma_codegen_laws.proofs.StepsOfWords.{commit_pending_semi_holds, leading_comments_holds, line_end_holds, start_of_holds}

pub begun_holds : {holds : Bool → Part → Type 0} (words : OfSteps holds) (bounded : Bool) (span : Span) (t : List ℕ) → holds bounded (begun span t)
unfolding begun is_other is_mark is_break
begun_holds words bounded span t = words.and_then bounded (leading_comments_holds words bounded span.lo) (words.and_then bounded (words.step bounded (Guard t) refl) (start_of_holds words bounded span))

pub settled_begun_holds : {holds : Bool → Part → Type 0} (words : OfSteps holds) (bounded : Bool) (span : Span) (t : List ℕ) → holds bounded (settled_begun span t)
unfolding settled_begun
settled_begun_holds words bounded span t = words.and_then bounded (commit_pending_semi_holds words bounded) (begun_holds words bounded span t)

pub string_holds : {holds : Bool → Part → Type 0} (words : OfSteps holds) (bounded : Bool) (t : List ℕ) → holds bounded (string t)
unfolding string is_other is_mark is_break
string_holds words bounded t = words.and_then bounded (words.step bounded (Guard t) refl) (words.step bounded (Token Str (StrLit dummy_span t)) refl)

pub number_holds : {holds : Bool → Part → Type 0} (words : OfSteps holds) (bounded : Bool) (t : List ℕ) → holds bounded (number t)
unfolding number is_other is_mark is_break
number_holds words bounded t = words.and_then bounded (words.step bounded (Guard t) refl) (words.step bounded (Ends (signed Number t) (StrLit dummy_span t)) refl)

pub dotted_number_holds : {holds : Bool → Part → Type 0} (words : OfSteps holds) (bounded : Bool) (t : List ℕ) → holds bounded (dotted_number t)
unfolding dotted_number is_other is_mark is_break
dotted_number_holds words bounded t = words.and_then bounded (words.step bounded (Guard t) refl) (words.and_then bounded (words.step bounded (Plain (StrLit dummy_span t)) refl) (words.step bounded (Ends (signed Number (t ++ codes ".")) (Punct None (codes "."))) refl))

pub sign_holds : {holds : Bool → Part → Type 0} (words : OfSteps holds) (bounded : Bool) (negative : Bool) (span : Span) → holds bounded (sign negative span)
unfolding sign is_other is_mark is_break
sign_holds words bounded negative span = either words bounded negative (words.and_then bounded (words.step bounded (Guard (codes "-")) refl) (words.step bounded (Token Punctuator (StrLit span (codes "-"))) refl)) (words.none bounded)

pub number_name_holds : {holds : Bool → Part → Type 0} (words : OfSteps holds) (bounded : Bool) (span : Span) (t : List ℕ) → holds bounded (number_name span t)
unfolding number_name is_other is_mark is_break
number_name_holds words bounded span t = words.and_then bounded (words.step bounded (Guard t) refl) (words.step bounded (Token Name (StrLit span t)) refl)

pub big_digits_holds : {holds : Bool → Part → Type 0} (words : OfSteps holds) (bounded : Bool) (span : Span) (t : List ℕ) → holds bounded (big_digits span t)
unfolding big_digits is_other is_mark is_break
big_digits_holds words bounded span t = words.and_then bounded (words.step bounded (Guard t) refl) (words.and_then bounded (words.step bounded (Plain (Lit span t)) refl) (words.step bounded (Ends (signed BigInt (t ++ codes "n")) (Lit span (codes "n"))) refl))

pub big_integer_holds : {holds : Bool → Part → Type 0} (words : OfSteps holds) (bounded : Bool) (span : Span) (t : List ℕ) → holds bounded (big_integer span t)
unfolding big_integer is_other is_mark is_break
big_integer_holds words bounded span t = words.and_then bounded (words.step bounded (Guard t) refl) (words.step bounded (Token BigInt (StrLit span t)) refl)

pub regex_holds : {holds : Bool → Part → Type 0} (words : OfSteps holds) (bounded : Bool) (exp : List ℕ) (flags : List ℕ) → holds bounded (regex exp flags)
unfolding regex is_other is_mark is_break
regex_holds words bounded exp flags = words.and_then bounded (words.step bounded (Guard (codes "/")) refl) (words.and_then bounded (words.step bounded (Plain (Punct None (codes "/"))) refl) (words.and_then bounded (words.step bounded (Plain (calls.Str exp)) refl) (words.and_then bounded (words.step bounded (Plain (Punct None (codes "/"))) refl) (words.step bounded (Ends ((Regex, regex_text exp flags) ∷ []) (calls.Str flags)) refl))))

pub hashbang_holds : {holds : Bool → Part → Type 0} (words : OfSteps holds) (bounded : Bool) (t : List ℕ) → holds bounded (hashbang t)
unfolding hashbang is_other is_mark is_break
hashbang_holds words bounded t = words.and_then bounded (words.step bounded (Plain (Punct None (codes "#!"))) refl) (words.and_then bounded (words.step bounded (Ends ((Hashbang, codes "#!" ++ t) ∷ []) (StrLit dummy_span t)) refl) (line_end_holds words bounded))
