use Rattle.std.proofs.Common.{◌≡◌, ℕ, false, map, refl, sym, subst}
use Rattle.std.specs.List.{filter}
use Rattle.swc_ecma_codegen_spans.specs.Spans.{import_specifier_span}
use Rattle.swc_ecma_codegen_grammar.specs.ListFormats.{indented}
use Rattle.swc_ecma_codegen_emit.specs.Standing.{Standing, Makes, standing_of}
use Rattle.swc_ecma_codegen_tokens.specs.Lists.{list}
use Rattle.swc_ecma_codegen_emit.specs.Lists.{child_of}
use Rattle.swc_ecma_codegen_emit.specs.Modules.{named_format, import_specifier, is_named}
use Rattle.swc_ecma_codegen_emit.proofs.emitter.Emitter.import_list.Goals as goal

pub braced_list-requires : goal.braced_list-requires
braced_list-requires g c =
    let format : c.named_format.result.0 ≡ named_format = c.named_format.ensures in
    let P : ℕ → Type 0 = λ z. indented z ≡ false in
    subst P (sym format) refl

pub returns : goal.returns
returns g c =
    let a : Standing = standing_of g.S.SourceMapper.lines g.C.Comments.maps g.W.WriteJs.sheet c.args.self.now in
    let b : Standing = standing_of g.S.SourceMapper.lines g.C.Comments.maps g.W.WriteJs.sheet c.braced_list.new.self in
    let format : c.named_format.result.0 ≡ named_format = c.named_format.ensures in
    let P : ℕ → Type 0 = λ z. Makes (list z c.args.parent (map (child_of import_specifier_span (λ n place. import_specifier n)) (filter is_named c.args.specifiers.now))) a b in
    record { items = subst P format c.braced_list.ensures.items }
