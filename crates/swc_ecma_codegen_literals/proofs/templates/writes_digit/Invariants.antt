use Rattle.std.proofs.Common.{◌≡◌, length, Bool}
use denote.Text.{Utf8}
use denote.Shadow.{shadow}
use Rattle.std.specs.Str.{chars}
use Rattle.swc_ecma_codegen_grammar.specs.Chars.{begins_digit}
use Rattle.swc_ecma_codegen_literals.specs.TemplateTexts.{pieces, spelled_pieces}
use Rattle.swc_ecma_codegen_literals.proofs.templates.writes_digit.Given as goal

abbrev pub invariant-loop-piece : goal.invariant-loop-piece
invariant-loop-piece l = shadow (Utf8 l.rest) × ((dollar ascii : Bool) → begins_digit (spelled_pieces dollar ascii (pieces (chars l.rest))) ≡ begins_digit (spelled_pieces dollar ascii (pieces (chars l.raw))))

abbrev pub decreases-loop-piece : goal.decreases-loop-piece
decreases-loop-piece l = length l.rest
