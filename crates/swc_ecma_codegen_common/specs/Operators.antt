-- How each operator is spelled.
use Rattle.std.specs.Prelude.{ℕ, List, codes}
use Rattle.swc_ecma_codegen_common.specs.declared.operators.BinaryOp.{BinaryOp}
use Rattle.swc_ecma_codegen_common.specs.declared.operators.BinaryOp.TheVariants as binary
use Rattle.swc_ecma_codegen_common.specs.declared.operators.AssignOp.{AssignOp}
use Rattle.swc_ecma_codegen_common.specs.declared.operators.AssignOp.TheVariants as assign
use Rattle.swc_ecma_codegen_common.specs.declared.operators.UnaryOp.{UnaryOp}
use Rattle.swc_ecma_codegen_common.specs.declared.operators.UnaryOp.TheVariants as unary
use Rattle.swc_ecma_codegen_common.specs.declared.operators.UpdateOp.{UpdateOp}
use Rattle.swc_ecma_codegen_common.specs.declared.operators.UpdateOp.TheVariants as update

-- A binary operator. ECMA-262, sections 13.6 to 13.13.
unfoldable pub binary_text : BinaryOp → List ℕ
binary_text binary.EqEq = codes "=="
binary_text binary.NotEq = codes "!="
binary_text binary.EqEqEq = codes "==="
binary_text binary.NotEqEq = codes "!=="
binary_text binary.Lt = codes "<"
binary_text binary.LtEq = codes "<="
binary_text binary.Gt = codes ">"
binary_text binary.GtEq = codes ">="
binary_text binary.LShift = codes "<<"
binary_text binary.RShift = codes ">>"
binary_text binary.ZeroFillRShift = codes ">>>"
binary_text binary.Add = codes "+"
binary_text binary.Sub = codes "-"
binary_text binary.Mul = codes "*"
binary_text binary.Div = codes "/"
binary_text binary.Mod = codes "%"
binary_text binary.BitOr = codes "|"
binary_text binary.BitXor = codes "^"
binary_text binary.BitAnd = codes "&"
binary_text binary.LogicalOr = codes "||"
binary_text binary.LogicalAnd = codes "&&"
binary_text binary.In = codes "in"
binary_text binary.InstanceOf = codes "instanceof"
binary_text binary.Exp = codes "**"
binary_text binary.NullishCoalescing = codes "??"

-- An assignment operator. ECMA-262, section 13.15.
unfoldable pub assign_text : AssignOp → List ℕ
assign_text assign.Assign = codes "="
assign_text assign.AddAssign = codes "+="
assign_text assign.SubAssign = codes "-="
assign_text assign.MulAssign = codes "*="
assign_text assign.DivAssign = codes "/="
assign_text assign.ModAssign = codes "%="
assign_text assign.LShiftAssign = codes "<<="
assign_text assign.RShiftAssign = codes ">>="
assign_text assign.ZeroFillRShiftAssign = codes ">>>="
assign_text assign.BitOrAssign = codes "|="
assign_text assign.BitXorAssign = codes "^="
assign_text assign.BitAndAssign = codes "&="
assign_text assign.ExpAssign = codes "**="
assign_text assign.AndAssign = codes "&&="
assign_text assign.OrAssign = codes "||="
assign_text assign.NullishAssign = codes "??="

-- A unary operator. ECMA-262, section 13.5.
unfoldable pub unary_text : UnaryOp → List ℕ
unary_text unary.Minus = codes "-"
unary_text unary.Plus = codes "+"
unary_text unary.Bang = codes "!"
unary_text unary.Tilde = codes "~"
unary_text unary.TypeOf = codes "typeof"
unary_text unary.Void = codes "void"
unary_text unary.Delete = codes "delete"

-- An update operator. ECMA-262, section 13.4.
unfoldable pub update_text : UpdateOp → List ℕ
update_text update.PlusPlus = codes "++"
update_text update.MinusMinus = codes "--"
