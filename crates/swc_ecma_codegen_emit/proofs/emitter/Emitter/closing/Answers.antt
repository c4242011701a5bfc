use Rattle.std.proofs.Common.{Bool, subst, rules}
use Rattle.swc_ecma_codegen_grammar.specs.ListFormats.{closing_line}
use Rattle.swc_ecma_codegen_emit.specs.Standing.{MakesShallower, standing_of}
use Rattle.swc_ecma_codegen_tokens.specs.Lists as lists
use Rattle.swc_ecma_codegen_grammar.specs.Comments.{maps_in}
use Rattle.swc_ecma_codegen_emit.proofs.Standings.{asked_shallower, shallower_here}
use Rattle.swc_ecma_codegen_emit.proofs.emitter.Emitter.closing.Goals as goal

pub returns : goal.returns
returns g c =
    let lines = g.S.SourceMapper.lines c.args.self.now.cm.now in
    let n = lists.list_levels c.args.format.0 c.args.self.now.cfg in
    let a = standing_of g.S.SourceMapper.lines g.C.Comments.maps g.W.WriteJs.sheet c.args.self.now in
    let b = standing_of g.S.SourceMapper.lines g.C.Comments.maps g.W.WriteJs.sheet (record c.args.self.now { lower = c.list_closing.new.self; wr = c.list_closing.new.wr; refusal = c.keep.new.kept }) in
    let P : Bool → Type 0 = λ line. MakesShallower n (lists.closing c.args.format.0 line) a b in
    let here = shallower_here n lines (maps_in g.C.Comments.maps c.args.self.now.comments) _ _ _ _ _ _ c.list_closing.ensures.items c.list_closing.ensures.level (search rules) c.keep.ensures in
    record { items = asked_shallower n (λ l. lists.closing c.args.format.0 (closing_line l c.args.format.0 c.args.parent c.args.last)) a b (subst P c.closing_line-line.ensures here) }
