use Rattle.std.proofs.Common.{◌≡◌, length}
use denote.Text.{Utf8}
use denote.Shadow.{shadow}
use Rattle.std.specs.Str.{chars}
use Rattle.swc_ecma_codegen_grammar.specs.Jsx.{all_tag}
use Rattle.swc_ecma_codegen_validate.proofs.jsx_texts.is_tag_rest.Given as goal

abbrev pub invariant-loop-c : goal.invariant-loop-c
invariant-loop-c l = record {
  goes : all_tag (chars l.text) ≡ all_tag (chars l.rest);
  utf8 : shadow (Utf8 l.rest);
}

abbrev pub decreases-loop-c : goal.decreases-loop-c
decreases-loop-c l = length (chars l.rest)
