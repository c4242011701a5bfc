use Rattle.swc_ecma_codegen_tokens.proofs.Jsx.TagStrings.{node_adds}
use Rattle.swc_ecma_codegen_tokens.proofs.LowerEmitter.jsx_text_node.Goals as goal

pub returns-clause-reads : goal.returns-clause-reads
returns-clause-reads g c = node_adds _ c.args.n.now _ _ c.args.self.now _ c.jsx_text.new.self _ c.printed_text.ensures c.jsx_text.ensures.reads
