-- What an operator asks of its operands, for the blanks that keep them apart. Words for a node take what they ask of
-- what its links hold: `kind` and `space`.
use Rattle.std.specs.Prelude.{Bool, true, false, if◌then◌else◌}
use Rattle.swc_ecma_codegen_tree.specs.declared.links.AnyNode.{AnyNode, AnyNode-F, fold-AnyNode}
use Rattle.swc_ecma_codegen_tree.specs.declared.links.AnyNode.TheOpen as nodes
use Rattle.swc_ecma_codegen_tree.specs.declared.links.AnyNode.TheFolds.{para-AnyNode}
use Rattle.swc_ecma_codegen_common.specs.declared.operators.BinaryOp.{BinaryOp}
use Rattle.swc_ecma_codegen_common.specs.declared.operators.BinaryOp.TheVariants as binary
use Rattle.swc_ecma_codegen_common.specs.declared.operators.UnaryOp.{UnaryOp}
use Rattle.swc_ecma_codegen_common.specs.declared.operators.UnaryOp.TheVariants as unary
use Rattle.swc_ecma_codegen_common.specs.declared.operators.UpdateOp.{UpdateOp}
use Rattle.swc_ecma_codegen_common.specs.declared.operators.UpdateOp.TheVariants as update
use Rattle.swc_ecma_codegen_tree.specs.declared.exprs.Expr.{Expr}
use Rattle.swc_ecma_codegen_tree.specs.declared.exprs.Expr.TheVariants as exprs
use Rattle.swc_ecma_codegen_tree.specs.declared.exprs.UpdateExpr.{UpdateExpr}
use Rattle.swc_ecma_codegen_tree.specs.declared.lits.Lit.{Lit}
use Rattle.swc_ecma_codegen_tree.specs.declared.lits.Lit.TheVariants as lits
use Rattle.swc_ecma_codegen_tree.specs.declared.lits.NumberValue.{NumberValue}
use Rattle.swc_ecma_codegen_tree.specs.declared.lits.NumberValue.TheVariants as values
use Rattle.swc_ecma_codegen_emit.specs.declared.operands.OperandKind.{OperandKind}
use Rattle.swc_ecma_codegen_emit.specs.declared.operands.OperandKind.TheVariants as kinds

-- `++a` or `a++`
unfoldable pub update_kind : {X : Type 0} → UpdateExpr X → OperandKind
update_kind n = if n.prefix then kinds.Prefix n.op else kinds.Postfix n.op

-- a number with a sign: `-1`, `-0`, `-Infinity`
unfoldable pub is_negative : NumberValue → Bool
is_negative (values.Finite d) = d.negative
is_negative values.NegInfinity = true
is_negative value = false

unfoldable pub lit_kind : Lit → OperandKind
lit_kind (lits.Num n) = if is_negative n.value.value then kinds.Negative else kinds.Other
lit_kind n = kinds.Other

-- an expression, by its operator or its sign
unfoldable pub expr_kind : {X : Type 0} → (X → OperandKind) → Expr X → OperandKind
expr_kind kind (exprs.Unary n) = kinds.Unary n.op
expr_kind kind (exprs.Update n) = update_kind n
expr_kind kind (exprs.Lit n) = lit_kind n
expr_kind kind n = kinds.Other

unfoldable pub node_kind : {X : Type 0} → (X → OperandKind) → AnyNode-F X → OperandKind
node_kind kind (nodes.Expr n) = expr_kind kind n
node_kind kind n = kinds.Other

unfoldable pub any_kind : AnyNode → OperandKind
any_kind = fold-AnyNode OperandKind (node_kind (λ known. known))

-- an operator is a word
unfoldable pub is_word_op : BinaryOp → Bool
is_word_op binary.In = true
is_word_op binary.InstanceOf = true
is_word_op op = false

-- `--` before `>` would end an HTML-like comment
unfoldable pub begins_greater : BinaryOp → Bool
begins_greater binary.Gt = true
begins_greater binary.GtEq = true
begins_greater binary.RShift = true
begins_greater binary.ZeroFillRShift = true
begins_greater op = false

-- `<` before `!--` would begin one
unfoldable pub is_less : BinaryOp → Bool
is_less binary.Lt = true
is_less binary.LShift = true
is_less op = false

-- a blank is due after an operand, before an operator that is no word: `a-- >b`
unfoldable pub space_after : OperandKind → BinaryOp → Bool
space_after (kinds.Postfix update.MinusMinus) op = begins_greater op
space_after kind op = false

-- a blank is due between the operator and a sign: `a- -b`, `a+ +b`
unfoldable pub sign_repeats : BinaryOp → UnaryOp → Bool
sign_repeats binary.Sub unary.Minus = true
sign_repeats binary.Add unary.Plus = true
sign_repeats op sign = false

-- a blank is due between the operator and an update: `a- --b`, `a+ ++b`
unfoldable pub update_repeats : BinaryOp → UpdateOp → Bool
update_repeats binary.Sub update.MinusMinus = true
update_repeats binary.Add update.PlusPlus = true
update_repeats op sign = false

-- it is an update by `--`
unfoldable pub is_decrement : OperandKind → Bool
is_decrement (kinds.Prefix update.MinusMinus) = true
is_decrement (kinds.Postfix update.MinusMinus) = true
is_decrement kind = false

-- `<` before `!--a`
unfoldable pub bang_space : OperandKind → BinaryOp → UnaryOp → Bool
bang_space arg op unary.Bang = if is_less op then is_decrement arg else sign_repeats op unary.Bang
bang_space arg op sign = sign_repeats op sign

unfoldable pub update_space : {X : Type 0} → UpdateExpr X → BinaryOp → Bool
update_space n op = if n.prefix then update_repeats op n.op else false

-- a blank is due between the operator and a sign of a number: `a- -1`
unfoldable pub negative_space : OperandKind → BinaryOp → Bool
negative_space kinds.Negative op = sign_repeats op unary.Minus
negative_space kind op = false

-- a blank is due between an operator that is no word and its right operand
unfoldable pub expr_space : {X : Type 0} → (X → OperandKind) → (X → BinaryOp → Bool) → Expr X → BinaryOp → Bool
expr_space kind space (exprs.Unary n) op = bang_space (kind n.arg.node.value) op n.op
expr_space kind space (exprs.Update n) op = update_space n op
expr_space kind space (exprs.Bin n) op = space n.left.node.value op
expr_space kind space (exprs.Lit n) op = negative_space (lit_kind n) op
expr_space kind space n op = false

unfoldable pub node_space : {X : Type 0} → (X → OperandKind) → (X → BinaryOp → Bool) → AnyNode-F X → BinaryOp → Bool
node_space kind space (nodes.Expr n) op = expr_space kind space n op
node_space kind space n op = false

unfoldable pub any_space : AnyNode → BinaryOp → Bool
any_space = para-AnyNode (BinaryOp → Bool) (node_space (λ p. any_kind p.0) (λ p. p.1))

-- a blank is due between a sign and its operand: `- -a`, `+ ++a`, `- -1`
unfoldable pub operand_space : UnaryOp → OperandKind → Bool
operand_space unary.Plus (kinds.Prefix update.PlusPlus) = true
operand_space unary.Plus (kinds.Unary unary.Plus) = true
operand_space unary.Minus (kinds.Prefix update.MinusMinus) = true
operand_space unary.Minus (kinds.Unary unary.Minus) = true
operand_space unary.Minus kinds.Negative = true
operand_space op kind = false
