use Rattle.std.proofs.Common.{sym, ◌∙◌, subst}
use Rattle.std.specs.List.Sorted.{IsNonDecreasing}
use Rattle.std.specs.Str.{chars}
use Rattle.swc_ecma_codegen_source.proofs.Ends.{ends_rise}
use Rattle.swc_ecma_codegen_source.proofs.SourceTextSourceMapper.is_on_same_line.Goals as goal

pub has_between-requires : goal.has_between-requires
has_between-requires c = subst IsNonDecreasing (sym (c.deref.ensures.value ∙ c.args.self.now.indexed)) (ends_rise 0 (chars c.args.self.now.text.now))
