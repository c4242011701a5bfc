use Rattle.std.proofs.Common.{refl, sym, ap, ◌∙◌, map}
use Rattle.swc_ecma_codegen_grammar.specs.Chars.{is_part, is_letter, is_digit, begins_digit}
use Rattle.swc_ecma_codegen_grammar.specs.Texts.{is_same, begins, some_begins}
use Rattle.swc_ecma_codegen_grammar.specs.Punctuators.{punctuators}
use Rattle.swc_ecma_codegen_grammar.specs.GapRules.{fuses, grows, is_choice, mark_fuses}
use Rattle.swc_ecma_codegen_tokens.proofs.Gaps.Starting.{samples}
use Rattle.swc_ecma_codegen_tokens.specs.Classes.{place_of}
use Rattle.swc_ecma_codegen_tokens.proofs.Gaps.Entries.{entry, entries, tokens, bits, number}
use Rattle.swc_ecma_codegen_tokens.proofs.guard.row.Goals as goal

-- the table is computed from the gap rules
pub returns : goal.returns
unfolding entries tokens samples bits number fuses mark_fuses grows is_choice is_part is_letter is_digit begins_digit is_same begins some_begins punctuators
returns c = λ token text class. entry (map number entries) _ token refl refl c.place.ensures.below (c.place.ensures.value ∙ ap place_of (sym class)) text
