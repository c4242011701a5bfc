-- Keys: a law of the words holds of the plan.
use Rattle.swc_ecma_codegen_laws.specs.Breaks.{is_mark, is_break}
use Rattle.swc_ecma_codegen_laws.proofs.OfSteps.{is_other}
use Rattle.std.proofs.Common.{refl}
use Rattle.std.specs.Prelude.{ℕ, Bool, true, if◌then◌else◌, List}
use Rattle.std.specs.List.{list_any}
use Rattle.std.specs.Str.{chars}
use Rattle.swc_ecma_codegen_common.specs.declared.positions.Span.{Span}
use Rattle.swc_ecma_codegen_spans.specs.Spans.{dummy_span}
use Rattle.swc_ecma_codegen_grammar.specs.declared.kinds.Kind.TheVariants.{Str}
use Rattle.swc_ecma_codegen_grammar.specs.ValidNames.{turned}
use Rattle.swc_ecma_codegen_text_writer.specs.Sheet.{Symbol}
use Rattle.swc_ecma_codegen_literals.specs.AsciiNames.{ascii_name, wants_quotes}
use Rattle.swc_ecma_codegen_tokens.specs.Run.{Part, step, Guard, Token, Remake, has_backslash}
use Rattle.swc_ecma_codegen_tokens.specs.Targets.{wants_escapes}
use Rattle.swc_ecma_codegen_tokens.specs.Words.{symbol}
use Rattle.swc_ecma_codegen_laws.proofs.OfSteps.{OfSteps, either, either_at}
use Rattle.swc_ecma_codegen_tokens.specs.Keys.{quoted_key, ascii_key, bare_key, plain_key, spelled_key, valid_key, key_text, key}
use Rattle.swc_ecma_codegen_laws.proofs.StepsOfWords.{commit_pending_semi_holds, leading_comments_holds, start_of_holds, symbol_holds}

pub quoted_key_holds : {holds : Bool → Part → Type 0} (words : OfSteps holds) (bounded : Bool) (span : Span) (t : List ℕ) → holds bounded (quoted_key span t)
unfolding quoted_key is_other is_mark is_break
quoted_key_holds words bounded span t = words.and_then bounded (words.step bounded (Guard t) refl) (words.and_then bounded (start_of_holds words bounded span) (words.step bounded (Token Str (Symbol dummy_span t)) refl))

pub ascii_key_holds : {holds : Bool → Part → Type 0} (words : OfSteps holds) (bounded : Bool) (quoted : Bool) (span : Span) (t : List ℕ) → holds bounded (ascii_key quoted span t)
unfolding ascii_key
ascii_key_holds words bounded quoted span t = either words bounded quoted (quoted_key_holds words bounded span t) (symbol_holds words bounded span t)

pub bare_key_holds : {holds : Bool → Part → Type 0} (words : OfSteps holds) (bounded : Bool) (span : Span) (t : List ℕ) → holds bounded (bare_key span t)
unfolding bare_key is_other is_mark is_break
bare_key_holds words bounded span t = words.and_then bounded (words.step bounded (Guard t) refl) (words.and_then bounded (start_of_holds words bounded span) (words.and_then bounded (leading_comments_holds words bounded span.lo) (words.and_then bounded (commit_pending_semi_holds words bounded) (symbol_holds words bounded span t))))

pub plain_key_holds : {holds : Bool → Part → Type 0} (words : OfSteps holds) (bounded : Bool) (span : Span) (t : List ℕ) → holds bounded (plain_key span t)
unfolding plain_key
plain_key_holds words bounded span t = words.by_env bounded (λ now rest env. if now.config.ascii_only then symbol span t rest env else bare_key span t rest env) (λ now. (either_at words bounded now.config.ascii_only (symbol_holds words bounded span t) (bare_key_holds words bounded span t)))

pub spelled_key_holds : {holds : Bool → Part → Type 0} (words : OfSteps holds) (bounded : Bool) (span : Span) (t : List ℕ) → holds bounded (spelled_key span t)
unfolding spelled_key is_other is_mark is_break
spelled_key_holds words bounded span t = words.by_env bounded (λ now rest env. if wants_escapes now.config t then step (Remake true) (ascii_key (list_any (wants_quotes now.config.target) (chars t)) span (ascii_name true now.config.target (chars t)) rest) env else plain_key span t rest env) (λ now. (either_at words bounded (wants_escapes now.config t) (words.and_then bounded (words.step bounded (Remake true) refl) (ascii_key_holds words bounded (list_any (wants_quotes now.config.target) (chars t)) span (ascii_name true now.config.target (chars t)))) (plain_key_holds words bounded span t)))

pub valid_key_holds : {holds : Bool → Part → Type 0} (words : OfSteps holds) (bounded : Bool) (span : Span) (name : List ℕ) → holds bounded (valid_key span name)
unfolding valid_key is_other is_mark is_break
valid_key_holds words bounded span name = words.and_then bounded (words.step bounded (Remake (has_backslash name)) refl) (spelled_key_holds words bounded span (turned name))

pub key_text_holds : {holds : Bool → Part → Type 0} (words : OfSteps holds) (bounded : Bool) (span : Span) (name : List ℕ) → holds bounded (key_text span name)
unfolding key_text
key_text_holds words bounded span name = words.by_env bounded (λ now rest env. if now.keeps_invalid then spelled_key span name rest env else valid_key span name rest env) (λ now. (either_at words bounded now.keeps_invalid (spelled_key_holds words bounded span name) (valid_key_holds words bounded span name)))

pub key_holds : {holds : Bool → Part → Type 0} (words : OfSteps holds) (bounded : Bool) (span : Span) (sym : List ℕ) → holds bounded (key span sym)
unfolding key
key_holds words bounded span sym = words.and_then bounded (leading_comments_holds words bounded span.lo) (words.and_then bounded (commit_pending_semi_holds words bounded) (key_text_holds words bounded span sym))
