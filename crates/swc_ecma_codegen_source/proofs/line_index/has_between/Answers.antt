use Rattle.std.proofs.Common.{ap, subst, ◌∙◌, leb, rules}
use Rattle.std.proofs.lemmas.List.Sorted.{IsPartitionPoint-from_clause, IsPartitionedBy-leb}
use Rattle.swc_ecma_codegen_source.proofs.Ends.{Parts, first_between, none_between}
use Rattle.swc_ecma_codegen_source.proofs.line_index.has_between.Goals as goal

pub returns-in-Some : goal.returns-in-Some
returns-in-Some c =
    let parted = IsPartitionedBy-leb (λ end. end) c.args.ends.now c.min-low.result c.requires in
    let point : Parts c.min-low.result c.args.ends.now c.partition_point-next.result =
    IsPartitionPoint-from_clause (λ end. leb end c.min-low.result) _ _ c.partition_point-next.ensures.partitioned parted (λ a r q k. search rules) in
    let parts = subst (λ low. Parts low c.args.ends.now c.partition_point-next.result) c.min-low.ensures point in
    ap (leb c.in-Some.end.now) c.max-high.ensures
    ∙ first_between c.args.left c.args.right c.partition_point-next.result c.in-Some.end.now c.args.ends.now c.requires parts c.in-Some.ensures.lookup.3.0 c.in-Some.ensures.lookup.1

pub returns-in-None : goal.returns-in-None
returns-in-None c =
    let parted = IsPartitionedBy-leb (λ end. end) c.args.ends.now c.min-low.result c.requires in
    let point : Parts c.min-low.result c.args.ends.now c.partition_point-next.result =
    IsPartitionPoint-from_clause (λ end. leb end c.min-low.result) _ _ c.partition_point-next.ensures.partitioned parted (λ a r q k. search rules) in
    let parts = subst (λ low. Parts low c.args.ends.now c.partition_point-next.result) c.min-low.ensures point in
    none_between c.args.left c.args.right c.partition_point-next.result c.args.ends.now parts c.in-None.ensures.lookup.3
