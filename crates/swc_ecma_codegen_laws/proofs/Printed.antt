-- What is written of a program is no other program's text.
use Rattle.std.proofs.Common.{◌≡◌, ℕ, Bool, true, false, List, refl, sym, ap₂, subst}
use Rattle.std.proofs.lemmas.Bool.{true≢false, or_parts}
use Rattle.std.specs.Str.{chars}
use Rattle.swc_ecma_codegen_tree.specs.declared.links.AnyNode.{AnyNode}
use Rattle.swc_ecma_codegen_tree.specs.declared.programs.Program.{Program}
use Rattle.swc_ecma_codegen_grammar.specs.Comments.{all_tame}
use Rattle.swc_ecma_codegen_grammar.specs.Layouts.{leaves_open}
use Rattle.swc_ecma_codegen_grammar.specs.Phrases.{Phrase, Then, CommaBefore, OptionalParentheses, Generates}
use Rattle.swc_ecma_codegen_grammar.specs.PlainPhrases.{plain_phrase}
use Rattle.swc_ecma_codegen_grammar.specs.Reads.{Reads}
use Rattle.swc_ecma_codegen_grammar.specs.Settings.{Settings}
use Rattle.swc_ecma_codegen_grammar.specs.Tokens.{Token}
use Rattle.swc_ecma_codegen_grammar.specs.TreePhrases.{program_phrase}
use Rattle.swc_ecma_codegen_grammar.specs.Trivia.{Remark}
use Rattle.swc_ecma_codegen_syntax.specs.Derives.{DerivesCoreProgram, program_verdict}
use Rattle.swc_ecma_codegen_syntax.specs.Verdicts.{core, holds_in}
use Rattle.swc_ecma_codegen_tokens.specs.Settings.{settings_of}
use Rattle.swc_ecma_codegen_tokens.specs.Written.{AddsText}
use Rattle.swc_ecma_codegen_settings.specs.declared.config.Config.{Config}
use Rattle.swc_ecma_codegen_uniqueness.proofs.Texts.{one_text}
use Rattle.swc_ecma_codegen_laws.specs.Told.{IsTold}
use Rattle.swc_ecma_codegen_laws.proofs.Derived.{plain_derived_in}

-- of any text that reads as some phrase
text_told : (config : Config) (remarks ds : List Remark) (old new : List ℕ) (p : Phrase) (a b : Program AnyNode) (t : Settings) (ys : List Token) → (x : AddsText config false p remarks old new) → all_tame remarks ≡ true →
    DerivesCoreProgram (settings_of config) a x.reading.tokens → Reads (chars x.added) ys ds → DerivesCoreProgram t b ys → IsTold (settings_of config) t a b x.reading.tokens ys
text_told config remarks ds old new p a b t ys x c d k e =
    one_text (settings_of config) t a b x.reading.tokens ys (chars x.added) remarks ds d e (subst (λ z. Reads (chars x.added) z remarks) (x.reading.whole refl) (x.reading.keeps_lines c)) k

pub derived_told : (config : Config) (remarks ds : List Remark) (old new : List ℕ) (a b : Program AnyNode) (t : Settings) (ys : List Token) → (x : AddsText config false (program_phrase a) remarks old new) → all_tame remarks ≡ true →
    DerivesCoreProgram (settings_of config) a x.reading.tokens → Reads (chars x.added) ys ds → DerivesCoreProgram t b ys → IsTold (settings_of config) t a b x.reading.tokens ys
derived_told config remarks ds old new a b t ys x c d k e = text_told config remarks ds old new (program_phrase a) a b t ys x c d k e

pub kept_told : (config : Config) (remarks ds : List Remark) (old new : List ℕ) (a b : Program AnyNode) (t : Settings) (ys : List Token) → (x : AddsText config false (plain_phrase config.minify (program_phrase a)) remarks old new) → all_tame remarks ≡ true →
    holds_in core (program_verdict a) ≡ true → Reads (chars x.added) ys ds → DerivesCoreProgram t b ys → IsTold (settings_of config) t a b x.reading.tokens ys
kept_told config remarks ds old new a b t ys x c h k e =
    text_told config remarks ds old new (plain_phrase config.minify (program_phrase a)) a b t ys x c (plain_derived_in core config.minify (settings_of config) a x.reading.tokens h x.reading.is_list) k e

-- where syntax leaves nothing open there is nothing to settle
plain_same : (minify : Bool) (p : Phrase) → leaves_open p ≡ false → plain_phrase minify p ≡ p
unfolding leaves_open plain_phrase
plain_same minify (Then p q) h = let x = or_parts (leaves_open p) (leaves_open q) h in ap₂ Then (plain_same minify p x.0) (plain_same minify q x.1)
plain_same minify (CommaBefore close) h = absurd (true≢false h)
plain_same minify (OptionalParentheses round p) h = absurd (true≢false h)
plain_same minify p h = refl

pub closed_told : (config : Config) (remarks ds : List Remark) (old new : List ℕ) (a b : Program AnyNode) (t : Settings) (ys : List Token) → (x : AddsText config false (program_phrase a) remarks old new) → all_tame remarks ≡ true →
    holds_in core (program_verdict a) ≡ true → leaves_open (program_phrase a) ≡ false → Reads (chars x.added) ys ds → DerivesCoreProgram t b ys → IsTold (settings_of config) t a b x.reading.tokens ys
closed_told config remarks ds old new a b t ys x c h o k e =
    derived_told config remarks ds old new a b t ys x c
    (plain_derived_in core config.minify (settings_of config) a x.reading.tokens h (subst (λ p. Generates (settings_of config) p x.reading.tokens) (sym (plain_same config.minify (program_phrase a) o)) x.reading.is_list)) k e
