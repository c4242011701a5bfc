-- Declarations of TypeScript that are the same but for what their links hold: that stands in the relation `m`.
use Rattle.std.specs.Prelude.{◌≡◌}
use Rattle.swc_ecma_codegen_tree.specs.declared.ts_decls.TsEnumDecl.{TsEnumDecl}
use Rattle.swc_ecma_codegen_tree.specs.declared.ts_decls.TsEnumMember.{TsEnumMember}
use Rattle.swc_ecma_codegen_tree.specs.declared.ts_decls.TsExportAssignment.{TsExportAssignment}
use Rattle.swc_ecma_codegen_parentheses.specs.declared.mends.Usage.{Usage}
use Rattle.swc_ecma_codegen_parentheses.specs.Lists.{Pairwise, linked, optionally}

unfoldable pub same_ts_enum_member : {X : Type 0} → (Usage → X → X → Type 0) → TsEnumMember X → TsEnumMember X → Type 0
same_ts_enum_member m n r = (r ≡ record n { init = r.init }) × optionally (linked m) n.init r.init

unfoldable pub same_ts_enum_decl : {X : Type 0} → (Usage → X → X → Type 0) → TsEnumDecl X → TsEnumDecl X → Type 0
same_ts_enum_decl m n r = (r ≡ record n { members = r.members }) × Pairwise (same_ts_enum_member m) n.members.items r.members.items

unfoldable pub same_ts_export_assignment : {X : Type 0} → (Usage → X → X → Type 0) → TsExportAssignment X → TsExportAssignment X → Type 0
same_ts_export_assignment m n r = (r ≡ record n { expr = r.expr }) × linked m n.expr r.expr
