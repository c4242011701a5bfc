-- What is written of a program without comments and without a source text is derived with it.
use Rattle.std.proofs.Common.{◌≡◌, ℕ, Bool, true, false, List, [], ◌∷◌, Ok, Err, OnOk, inl, refl, subst}
use Rattle.std.specs.Str.{chars}
use Rattle.swc_ecma_codegen_common.specs.Refusals.{in_short}
use Rattle.swc_ecma_codegen_tree.specs.declared.links.AnyNode.{AnyNode}
use Rattle.swc_ecma_codegen_tree.specs.declared.programs.Program.{Program}
use Rattle.swc_ecma_codegen_grammar.specs.Comments.{all_tame, no_maps}
use Rattle.swc_ecma_codegen_grammar.specs.Phrases.{Generates}
use Rattle.swc_ecma_codegen_grammar.specs.PlainPhrases.{plain_phrase}
use Rattle.swc_ecma_codegen_grammar.specs.Reads.{Reads}
use Rattle.swc_ecma_codegen_grammar.specs.Settings.{Settings}
use Rattle.swc_ecma_codegen_grammar.specs.SourceLines.{no_lines}
use Rattle.swc_ecma_codegen_grammar.specs.Tokens.{Token}
use Rattle.swc_ecma_codegen_grammar.specs.TreePhrases.{program_phrase}
use Rattle.swc_ecma_codegen_syntax.specs.Derives.{DerivesProgram, DerivesProgramIn, program_verdict}
use Rattle.swc_ecma_codegen_syntax.specs.Verdicts.{Grammar, full, holds, holds_in}
use Rattle.swc_ecma_codegen_syntax.proofs.RootLaws.{program_complete_plain}
use Rattle.swc_ecma_codegen_text_writer.specs.Sheet.{holds_semicolons}
use Rattle.swc_ecma_codegen_tokens.specs.Plain.{IsPlain}
use Rattle.swc_ecma_codegen_tokens.specs.Run.{Follows, State, is_bounded, nothing, printed, start}
use Rattle.swc_ecma_codegen_tokens.specs.Settings.{settings_of}
use Rattle.swc_ecma_codegen_tokens.specs.Written.{AddsText}
use Rattle.swc_ecma_codegen_settings.specs.Defaults.{default_config}
use Rattle.swc_ecma_codegen_settings.specs.declared.config.Config.{Config}
use Rattle.swc_ecma_codegen_emit.specs.Emission.{Outcome}
use Rattle.swc_ecma_codegen_emit.specs.Roots.{OfProgram, MayBegin, is_well_formed_root, root_items}
use Rattle.swc_ecma_codegen_emit.specs.Texts.{IsPrinted, blank_sheet, text_of}
use Rattle.swc_ecma_codegen_emit.proofs.TreeReads.{new_begins}
use Rattle.swc_ecma_codegen_laws.proofs.PlainTexts.{root_reads_plain}
use Rattle.swc_ecma_codegen_laws.specs.Told.{AddsDerived}

-- what settles what syntax leaves open as a text without comments and without a source text does is derived with a program that keeps its structure
pub plain_derived_in : (grammar : Grammar) (minify : Bool) (s : Settings) (a : Program AnyNode) (ts : List Token) → holds_in grammar (program_verdict a) ≡ true → Generates s (plain_phrase minify (program_phrase a)) ts → DerivesProgramIn grammar s a ts
plain_derived_in grammar minify s a ts h x = program_complete_plain grammar minify a _ refl h s ts x

pub plain_derived : (minify : Bool) (s : Settings) (a : Program AnyNode) (ts : List Token) → holds true (program_verdict a) ≡ true → Generates s (plain_phrase minify (program_phrase a)) ts → DerivesProgram true s a ts
plain_derived minify s a ts h x = plain_derived_in (full true) minify s a ts h x

-- the text that is printed of such a program
added_derived : (config : Config) (a : Program AnyNode) (old new : List ℕ) → holds true (program_verdict a) ≡ true → AddsText config false (plain_phrase config.minify (program_phrase a)) [] old new → AddsDerived (settings_of config) a old new
unfolding all_tame
added_derived config a old new h x = record {
  added = x.added;
  is_added = x.is_added;
  tokens = x.reading.tokens;
  derived = plain_derived config.minify (settings_of config) a x.reading.tokens h x.reading.is_list;
  reads = subst (λ z. Reads (chars x.added) z []) (x.reading.whole refl) (x.reading.keeps_lines refl);
}

on_ok_derived : (r : Outcome) (b : Bool) (config : Config) (a : Program AnyNode) (old new : List ℕ) → b ≡ false → holds true (program_verdict a) ≡ true → OnOk r (AddsText config b (plain_phrase config.minify (program_phrase a)) [] old new) →
    OnOk r (AddsDerived (settings_of config) a old new)
on_ok_derived (Ok u) b config a old new e h x = added_derived config a old new h (subst (λ z. AddsText config z (plain_phrase config.minify (program_phrase a)) [] old new) e x)
on_ok_derived (Err u) b config a old new e h x = tt

pub printed_derived : (a : Program AnyNode) (s e : State) (answer : Outcome) → Follows (root_items (OfProgram a) nothing) s e (in_short answer) → is_well_formed_root (OfProgram a) ≡ true → MayBegin (OfProgram a) s → IsPlain s.env → is_bounded s.env ≡ false →
    holds_semicolons s.sheet.semicolons ≡ false → holds true (program_verdict a) ≡ true → OnOk answer (AddsDerived (settings_of s.env.config) a s.sheet.text e.sheet.text)
printed_derived a s e answer f w begins plain bounded at_once h =
    on_ok_derived answer (holds_semicolons s.sheet.semicolons) s.env.config a s.sheet.text e.sheet.text at_once h (root_reads_plain (OfProgram a) s e answer f w begins plain bounded)

-- the text that `to_code` gives of it
pub text_derived : (a : Program AnyNode) → IsPrinted (root_items (OfProgram a)) (start no_lines no_maps default_config blank_sheet) → is_well_formed_root (OfProgram a) ≡ true → holds true (program_verdict a) ≡ true →
    AddsDerived (settings_of default_config) a [] (text_of (root_items (OfProgram a)))
text_derived a f w h =
    let s : State = start no_lines no_maps default_config blank_sheet in
    printed_derived a s (printed (root_items (OfProgram a)) s) (Ok tt) f w (new_begins (OfProgram a) no_lines no_maps default_config [] (10 ∷ []) (inl refl)) (record { no_comments = refl; no_source = λ span. refl }) refl refl h
