-- How the words of the tree are spelled.
use Rattle.std.specs.Prelude.{ℕ, List, codes}
use Rattle.swc_ecma_codegen_tree.specs.declared.decls.VarDeclKind.{VarDeclKind}
use Rattle.swc_ecma_codegen_tree.specs.declared.decls.VarDeclKind.TheVariants as kinds

-- The word that begins a declaration. ECMA-262, sections 14.3.1 and 14.3.2.
unfoldable pub declaration_word : VarDeclKind → List ℕ
declaration_word kinds.Var = codes "var"
declaration_word kinds.Let = codes "let"
declaration_word kinds.Const = codes "const"
