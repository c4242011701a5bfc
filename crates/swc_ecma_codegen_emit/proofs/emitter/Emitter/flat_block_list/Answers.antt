use Rattle.std.proofs.Common.{◌≡◌, ℕ, List, map, subst}
use Rattle.swc_ecma_codegen_tree.specs.declared.stmts.Stmt.{Stmt}
use Rattle.swc_ecma_codegen_emit.specs.Standing.{Standing, Makes, standing_of}
use Rattle.swc_ecma_codegen_tokens.specs.Lists.{list}
use Rattle.swc_ecma_codegen_spans.specs.Spans.{stmt_span}
use Rattle.swc_ecma_codegen_emit.specs.Answers.{place_of}
use Rattle.swc_ecma_codegen_emit.specs.Lists.{child_of}
use Rattle.swc_ecma_codegen_emit.specs.Stmts.{stmt}
use Rattle.swc_ecma_codegen_emit.specs.Blocks.{flat_block_format}
use Rattle.swc_ecma_codegen_emit.proofs.emitter.Emitter.flat_block_list.Goals as goal

pub returns : goal.returns
returns g c =
    let a : Standing = standing_of g.S.SourceMapper.lines g.C.Comments.maps g.W.WriteJs.sheet c.args.self.now in
    let b : Standing = standing_of g.S.SourceMapper.lines g.C.Comments.maps g.W.WriteJs.sheet c.list.new.self in
    let format : c.flat_block_format.result.0 ≡ flat_block_format = c.flat_block_format.ensures in
    let P : ℕ → Type 0 = λ z. Makes (list z c.args.node.now.span (map (child_of (stmt_span (place_of g.N.Known.answers)) (λ s place. stmt g.N.Known.answers g.N.EmitAt.items s)) c.args.node.now.stmts.items)) a b in
    let Q : List (Stmt _) → Type 0 = λ xs. Makes (list c.flat_block_format.result.0 c.args.node.now.span (map (child_of (stmt_span (place_of g.N.Known.answers)) (λ s place. stmt g.N.Known.answers g.N.EmitAt.items s)) xs)) a b in
    record { items = subst P format (subst Q c.deref.ensures.value c.list.ensures.items) }
