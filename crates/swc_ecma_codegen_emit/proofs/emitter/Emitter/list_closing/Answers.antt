use Rattle.std.proofs.Common.{◌+◌, subst, sym}
use Rattle.swc_ecma_codegen_settings.specs.declared.config.Config.{Config}
use Rattle.swc_ecma_codegen_tokens.specs.Lists as lists
use Rattle.swc_ecma_codegen_emit.specs.Standing.{HasLevels, MakesShallower, standing_of}
use Rattle.swc_ecma_codegen_emit.proofs.Standings.{keeps_levels}
use Rattle.swc_ecma_codegen_emit.proofs.emitter.Emitter.list_closing.Goals as goal

pub closing-requires : goal.closing-requires
closing-requires g c =
    let P : Config → Type 0 = λ cfg. HasLevels (lists.list_levels c.args.format.0 cfg) (standing_of g.S.SourceMapper.lines g.C.Comments.maps g.W.WriteJs.sheet c.trailing_comma.new.self) in
    subst P (sym c.trailing_comma.ensures.settings) (keeps_levels _ _ _ _ c.trailing_comma.ensures.items c.requires)

pub returns : goal.returns
unfolding lists.list_closing
returns g c =
    let format = c.args.format.0 in
    let end = lists.list_end format c.args.parent c.args.last in
    let P : Config → Type 0 = λ cfg. MakesShallower (lists.list_levels format cfg) end (standing_of g.S.SourceMapper.lines g.C.Comments.maps g.W.WriteJs.sheet c.trailing_comma.new.self) (standing_of g.S.SourceMapper.lines g.C.Comments.maps g.W.WriteJs.sheet c.closing.new.self) in
    let closed = subst P c.trailing_comma.ensures.settings c.closing.ensures.items in
    record { items = λ level rest d k. c.trailing_comma.ensures.items (level + lists.list_levels format c.args.self.now.cfg) (end rest) d (closed level rest d k) }
