use Rattle.swc_ecma_codegen_grammar.specs.Comments.{maps_in}
use Rattle.swc_ecma_codegen_grammar.specs.JsxPhrases.{jsx_string}
use Rattle.swc_ecma_codegen_tokens.specs.Attributes.{attribute_string}
use Rattle.swc_ecma_codegen_tokens.proofs.Jsx.TagStrings.{prints_attribute_string}
use Rattle.swc_ecma_codegen_tokens.proofs.Reading.TokensSoFar.{adds_taking, jsx_string_jointless}
use Rattle.swc_ecma_codegen_tokens.proofs.LowerEmitter.attribute_string.Goals as goal

pub returns-clause-reads : goal.returns-clause-reads
returns-clause-reads g c = adds_taking (jsx_string c.args.n.now) (attribute_string c.args.n.now) (maps_in g.C.Comments.maps c.args.comments.now) (maps_in g.C.Comments.maps c.attribute_at.new.comments) _ _ c.attribute_at.result (prints_attribute_string _ c.args.n.now) (jsx_string_jointless c.args.n.now) c.attribute_at.ensures.items
