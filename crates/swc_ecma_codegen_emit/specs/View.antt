-- Where an emitter stands.
use Rattle.swc_ecma_codegen_grammar.specs.SourceLines.{Lines}
use Rattle.swc_ecma_codegen_grammar.specs.CommentMaps.{Maps}
use Rattle.swc_ecma_codegen_grammar.specs.Comments.{maps_in}
use Rattle.swc_ecma_codegen_text_writer.specs.Sheet.{Sheet}
use Rattle.swc_ecma_codegen_emit.specs.declared.emitter.Emitter.{Emitter}
use Rattle.swc_ecma_codegen_tokens.specs.View as base
use Rattle.swc_ecma_codegen_tokens.specs.Run.{State, at_source}

abbrev pub state_of : {W S C : Type 0} → (S → Lines) → (C → Maps) → (W → Sheet) → Emitter W S C → State
state_of lines maps sheet e = at_source (lines e.cm.now) (maps_in maps e.comments) (base.state_of e.cfg (sheet e.wr) e.lower)
