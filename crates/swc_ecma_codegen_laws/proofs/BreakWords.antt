-- Lines may be ended right behind the marks of each word.
use Rattle.std.proofs.Common.{Bool, codes, Some, refl}
use Rattle.swc_ecma_codegen_common.specs.declared.positions.Span.{Span}
use Rattle.swc_ecma_codegen_grammar.specs.declared.kinds.Kind.TheVariants.{Punctuator}
use Rattle.swc_ecma_codegen_grammar.specs.Texts.{is_among, is_same}
use Rattle.swc_ecma_codegen_text_writer.specs.Sheet.{Punct}
use Rattle.swc_ecma_codegen_tokens.specs.Run.{Token}
use Rattle.swc_ecma_codegen_tokens.specs.Words.{placed_punct}
use Rattle.swc_ecma_codegen_laws.specs.Breaks.{is_mark, is_break}
use Rattle.swc_ecma_codegen_laws.proofs.BreakSteps.{Breaks, break_steps, unmarked, breaks_bare_punct, breaks_binary, breaks_update, breaks_assign, breaks_yield, breaks_template, breaks_element, breaks_without_body}
use Rattle.swc_ecma_codegen_laws.proofs.OfWords.{OfWords}
use Rattle.swc_ecma_codegen_laws.proofs.WordsOfSteps.{words_of}

ellipsis_breaks : (bounded : Bool) (span : Span) → Breaks bounded (placed_punct span (codes "..."))
unfolding placed_punct is_mark is_break is_among is_same
ellipsis_breaks bounded span = unmarked bounded (codes "...") (Token Punctuator (Punct (Some span) (codes "..."))) refl refl

pub break_words : OfWords Breaks
break_words = words_of break_steps (record {
  bare_punct = breaks_bare_punct;
  ellipsis = ellipsis_breaks;
  binary = breaks_binary;
  update_operator = breaks_update;
  assign_operator = breaks_assign;
  yield_word = breaks_yield;
  template = breaks_template;
  element = breaks_element;
  without_body = breaks_without_body;
})
