use Rattle.std.proofs.Common.{◌≡◌, ◌++◌, length, string_bytes}
use denote.Text.{Utf8}
use denote.Shadow.{shadow}
use Rattle.std.specs.Str.{chars, encode_utf8_all}
use Rattle.swc_ecma_codegen_tokens.specs.Templates.{with_line_feeds}
use Rattle.swc_ecma_codegen_tokens.proofs.templates.with_line_feeds.Given as goal

abbrev pub invariant-loop-c : goal.invariant-loop-c
invariant-loop-c l = record {
  goes : string_bytes l.text ++ encode_utf8_all (with_line_feeds (chars l.rest)) ≡ encode_utf8_all (with_line_feeds (chars l.raw));
  text : shadow (Utf8 l.rest);
}

abbrev pub decreases-loop-c : goal.decreases-loop-c
decreases-loop-c l = length (chars l.rest)
