-- How lines begin and end.
use Rattle.std.specs.Prelude.{ℕ, List, take, codes}
use Rattle.swc_ecma_codegen_requests.specs.declared.layouts.Indent.{Indent}
use Rattle.swc_ecma_codegen_requests.specs.declared.layouts.Indent.TheVariants.{Blanks, Tabs}
use Rattle.swc_ecma_codegen_requests.specs.declared.layouts.NewLine.{NewLine}
use Rattle.swc_ecma_codegen_requests.specs.declared.layouts.NewLine.TheVariants.{Lf, CrLf}

-- what a level of indentation writes: so many of ten blanks, or of ten tabs
abbrev pub indent_text : Indent → List ℕ
indent_text (Blanks count) = take count (codes "          ")
indent_text (Tabs count) = take count (codes "\t\t\t\t\t\t\t\t\t\t")

-- what ends a line: LF, or CR and LF
abbrev pub new_line_text : NewLine → List ℕ
new_line_text Lf = codes "\n"
new_line_text CrLf = codes "\r\n"
