use Rattle.std.proofs.Common.{None}
use Rattle.swc_ecma_codegen_emit.specs.Jsx.{jsx_element}
use Rattle.swc_ecma_codegen_emit.specs.Standing.{standing_of}
use Rattle.swc_ecma_codegen_emit.proofs.Lengths.{length_makes}
use Rattle.swc_ecma_codegen_emit.proofs.jsx.JSXElementEmitAt.emit_at.Goals as goal

pub returns : goal.returns
unfolding jsx_element
returns g c = record { items = length_makes None _ (standing_of g.S.SourceMapper.lines g.C.Comments.maps g.W.WriteJs.sheet c.args.e.now) (standing_of g.S.SourceMapper.lines g.C.Comments.maps g.W.WriteJs.sheet c.jsx_element_parts.new.self) c.jsx_element_parts.ensures.items }
