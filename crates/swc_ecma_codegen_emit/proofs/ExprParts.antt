-- What is written of each expression is what it reads as.
use Rattle.std.proofs.Common.{ℕ, Bool, true, false, cond, List, [], ◌==◌, ◌-◌, codes, refl, Option, Some, None, string_bytes, ◌≡◌}
use Rattle.std.specs.Str.{chars, is_utf8}
use Rattle.swc_ecma_codegen_common.specs.declared.positions.BytePos.{BytePos}
use Rattle.swc_ecma_codegen_common.specs.declared.positions.Span.{Span}
use Rattle.swc_ecma_codegen_tree.specs.declared.idents.Ident.{Ident}
use Rattle.swc_ecma_codegen_tree.specs.declared.idents.IdentName.{IdentName}
use Rattle.swc_ecma_codegen_tree.specs.declared.idents.PrivateName.{PrivateName}
use Rattle.swc_ecma_codegen_common.specs.declared.operators.AssignOp.{AssignOp}
use Rattle.swc_ecma_codegen_common.specs.declared.operators.AssignOp.TheVariants as assign
use Rattle.swc_ecma_codegen_common.specs.declared.operators.UnaryOp.{UnaryOp}
use Rattle.swc_ecma_codegen_common.specs.declared.operators.UnaryOp.TheVariants as unary
use Rattle.swc_ecma_codegen_common.specs.declared.operators.UpdateOp.{UpdateOp}
use Rattle.swc_ecma_codegen_common.specs.declared.operators.UpdateOp.TheVariants as update
use Rattle.swc_ecma_codegen_common.specs.declared.operators.BinaryOp.{BinaryOp}
use Rattle.swc_ecma_codegen_common.specs.declared.operators.BinaryOp.TheVariants as binary
use Rattle.swc_ecma_codegen_tree.specs.declared.exprs.ThisExpr as this_exprs
use Rattle.swc_ecma_codegen_tree.specs.declared.exprs.UnaryExpr.{UnaryExpr}
use Rattle.swc_ecma_codegen_tree.specs.declared.exprs.UpdateExpr.{UpdateExpr}
use Rattle.swc_ecma_codegen_tree.specs.declared.exprs.BinExpr.{BinExpr}
use Rattle.swc_ecma_codegen_tree.specs.declared.exprs.MemberExpr.{MemberExpr}
use Rattle.swc_ecma_codegen_tree.specs.declared.exprs.ComputedPropName.{ComputedPropName}
use Rattle.swc_ecma_codegen_tree.specs.Links.{ExprBox}
use Rattle.swc_ecma_codegen_tree.specs.declared.exprs.AssignExpr.{AssignExpr}
use Rattle.swc_ecma_codegen_tree.specs.declared.exprs.SuperPropExpr.{SuperPropExpr}
use Rattle.swc_ecma_codegen_tree.specs.declared.exprs.SuperProp.{SuperProp}
use Rattle.swc_ecma_codegen_tree.specs.declared.exprs.SuperProp.TheVariants as super_props
use Rattle.swc_ecma_codegen_tree.specs.declared.exprs.OptChainExpr.{OptChainExpr}
use Rattle.swc_ecma_codegen_tree.specs.declared.exprs.OptChainBase.{OptChainBase}
use Rattle.swc_ecma_codegen_tree.specs.declared.exprs.OptChainBase.TheVariants as chain_bases
use Rattle.swc_ecma_codegen_tree.specs.declared.exprs.MetaPropExpr.{MetaPropExpr}
use Rattle.swc_ecma_codegen_tree.specs.declared.exprs.MetaPropKind.{MetaPropKind}
use Rattle.swc_ecma_codegen_tree.specs.declared.exprs.MetaPropKind.TheVariants as meta_props
use Rattle.swc_ecma_codegen_tree.specs.declared.exprs.YieldExpr.{YieldExpr}
use Rattle.swc_ecma_codegen_tree.specs.declared.exprs.AwaitExpr.{AwaitExpr}
use Rattle.swc_ecma_codegen_tree.specs.declared.exprs.SpreadElement.{SpreadElement}
use Rattle.swc_ecma_codegen_tree.specs.declared.exprs.CondExpr.{CondExpr}
use Rattle.swc_ecma_codegen_tree.specs.declared.exprs.MemberProp.{MemberProp}
use Rattle.swc_ecma_codegen_tree.specs.declared.exprs.MemberProp.TheVariants as member_props
use Rattle.swc_ecma_codegen_tree.specs.declared.exprs.SeqExpr.{SeqExpr}
use Rattle.swc_ecma_codegen_tree.specs.declared.exprs.ParenExpr.{ParenExpr}
use Rattle.swc_ecma_codegen_tree.specs.declared.lits.Lit.{Lit}
use Rattle.swc_ecma_codegen_tree.specs.declared.lits.Lit.TheVariants as lits
use Rattle.swc_ecma_codegen_common.specs.Operators.{assign_text, unary_text, binary_text, update_text}
use Rattle.swc_ecma_codegen_spans.specs.Spans.{spread_element_span}
use Rattle.swc_ecma_codegen_settings.specs.Starts as starts
use Rattle.swc_ecma_codegen_grammar.specs.Chars.{is_start, is_part, is_letter, is_digit}
use Rattle.swc_ecma_codegen_grammar.specs.Names.{is_word, all_part}
use Rattle.swc_ecma_codegen_grammar.specs.Punctuators.{is_punctuator, punctuators}
use Rattle.swc_ecma_codegen_grammar.specs.Texts.{is_same, is_among}
use Rattle.swc_ecma_codegen_grammar.specs.Phrases.{Phrase, OptionalParentheses, Argument, One, ◌>◌, mark, word}
use Rattle.swc_ecma_codegen_grammar.specs.NamePhrases as names
use Rattle.swc_ecma_codegen_grammar.specs.ExprPhrases as lists
use Rattle.swc_ecma_codegen_grammar.specs.PropPhrases as prop_lists
use Rattle.swc_ecma_codegen_grammar.specs.KeyPhrases as keys
use Rattle.swc_ecma_codegen_grammar.specs.CallPhrases.{callee_at, value_at}
use Rattle.swc_ecma_codegen_grammar.specs.LitPhrases as lit_lists
use Rattle.swc_ecma_codegen_grammar.specs.declared.roles.Role.TheVariants.{ChainMember, AssignmentTarget, Callee as IsCallee, ChainCall}
use Rattle.swc_ecma_codegen_tokens.specs.Run.{Env, Part, spelling}
use Rattle.swc_ecma_codegen_tokens.specs.Words.{operator, space, formatting_space, position, leading_comments, keyword, allow_break, allows_break}
use Rattle.swc_ecma_codegen_tokens.proofs.NameTokens.PrivatePrints.{prints_private}
use Rattle.swc_ecma_codegen_tokens.proofs.Reading.Printed.{writes_then, writes_if, writes_nothing, writes_space, writes_formatting_space, writes_commit, writes_position, writes_position_before, Fills}
use Rattle.swc_ecma_codegen_tokens.proofs.Commenting.CommentPrints.{writes_leading}
use Rattle.swc_ecma_codegen_tokens.specs.Written.{IsWord, IsMark}
use Rattle.swc_ecma_codegen_tokens.proofs.Reading.Choices.{parentheses_among, prints_bare, prints_by_test, prints_parenthesized}
use Rattle.swc_ecma_codegen_tokens.proofs.LiteralTokens.EachLit.{prints_lit}
use Rattle.swc_ecma_codegen_tokens.proofs.LiteralTokens.NumberPrints.{prints_number, prints_number_object}
use Rattle.swc_ecma_codegen_tokens.proofs.Reading.Phrased.{Prints, then, after, before, prints_nothing, prints_never, prints_keyword, prints_operator, prints_punct, prints_ident, prints_name, PrintsAt, prints_wider, prints_joined_operator, joined_then, prints_unbroken}
use Rattle.swc_ecma_codegen_emit.specs.declared.nodes.Context.{Context}
use Rattle.swc_ecma_codegen_emit.specs.declared.nodes.Context.TheVariants.{Plain, LeftOperand, Object, DottedObject, Callee}
use Rattle.swc_ecma_codegen_emit.specs.Places.{Whole, chain}
use Rattle.swc_ecma_codegen_emit.specs.Answers.{Answers, place_of}
use Rattle.swc_ecma_codegen_emit.specs.Operands.{is_word_op, operand_space}
use Rattle.swc_ecma_codegen_emit.specs.Exprs as words
use Rattle.swc_ecma_codegen_emit.specs.Calls as calls
use Rattle.swc_ecma_codegen_emit.specs.Lits.{lit_at}
use Rattle.swc_ecma_codegen_emit.proofs.CallParts.{super_is_word}
use Rattle.swc_ecma_codegen_emit.proofs.Linked.{Linked, expr_at}
use Rattle.swc_ecma_codegen_emit.proofs.ListParts.{some_listed_prints}
use Rattle.swc_ecma_codegen_tokens.proofs.Filling.Shapes.{open_, joined, ended}
use Rattle.swc_ecma_codegen_grammar.specs.Phrases as phrases
use Rattle.swc_ecma_codegen_tokens.proofs.Filling.BreakPrints.{prints_operator_break, prints_word_break}

-- ---- blanks and comments

pub writes_blank : (env : Env) (needed : Bool) → Fills env (words.blank needed)
unfolding words.blank
writes_blank env needed = writes_if env needed space formatting_space [] (writes_space env) (writes_formatting_space env)

pub writes_space_if : (env : Env) (needed : Bool) → Fills env (words.space_if needed)
unfolding words.space_if
writes_space_if env needed = writes_if env needed space (λ rest. rest) [] (writes_space env) (writes_nothing env)

pub writes_opened : (env : Env) (span : Span) → Fills env (words.opened span)
unfolding words.opened
writes_opened env span = writes_then env (leading_comments span.lo) (position span.lo) [] [] (writes_leading env span.lo) (writes_position env span.lo)

writes_bin_opened : (env : Env) (context : Context) (span : Span) → Fills env (words.bin_opened context span)
unfolding words.bin_opened
writes_bin_opened env LeftOperand span = writes_nothing env
writes_bin_opened env context span = writes_opened env span

writes_unary_gap : (env : Env) (op : UnaryOp) (arg : Answers) → Fills env (words.unary_gap op arg)
unfolding words.unary_gap
writes_unary_gap env op arg = writes_if env (starts.is_word_op op) (words.blank arg.starts) (words.space_if (operand_space op arg.kind)) [] (writes_blank env arg.starts) (writes_space_if env (operand_space op arg.kind))

pub writes_comments_before : (env : Env) (pos : BytePos) → Fills env (words.comments_before pos)
unfolding words.comments_before
writes_comments_before env pos = writes_if env (pos.0 == 0) (λ rest. rest) (leading_comments (record { 0 = pos.0 - 1 })) [] (writes_nothing env) (writes_leading env (record { 0 = pos.0 - 1 }))

-- ---- operators

unary_op_prints : (env : Env) (op : UnaryOp) → Prints env (words.unary_op op) (One (lists.unary_op op))
unfolding words.unary_op lists.unary_op starts.is_word_op unary_text is_word is_start is_part is_letter is_digit all_part is_punctuator is_among is_same punctuators chars is_utf8 lib.Utf8.encode
unary_op_prints env unary.Minus = prints_punct env (codes "-") (record { utf8 = refl; ascii = refl; shape = refl })
unary_op_prints env unary.Plus = prints_punct env (codes "+") (record { utf8 = refl; ascii = refl; shape = refl })
unary_op_prints env unary.Bang = prints_punct env (codes "!") (record { utf8 = refl; ascii = refl; shape = refl })
unary_op_prints env unary.Tilde = prints_punct env (codes "~") (record { utf8 = refl; ascii = refl; shape = refl })
unary_op_prints env unary.TypeOf = prints_keyword env None (codes "typeof") (record { utf8 = refl; ascii = refl; shape = refl })
unary_op_prints env unary.Void = prints_keyword env None (codes "void") (record { utf8 = refl; ascii = refl; shape = refl })
unary_op_prints env unary.Delete = prints_keyword env None (codes "delete") (record { utf8 = refl; ascii = refl; shape = refl })

update_op_prints : (env : Env) (op : UpdateOp) → Prints env (operator (update_text op)) (One (lists.update_op op))
unfolding lists.update_op update_text is_punctuator is_among is_same punctuators chars is_utf8 lib.Utf8.encode
update_op_prints env update.PlusPlus = prints_operator env (codes "++") (record { utf8 = refl; ascii = refl; shape = refl })
update_op_prints env update.MinusMinus = prints_operator env (codes "--") (record { utf8 = refl; ascii = refl; shape = refl })

binary_op_prints : (env : Env) (op : BinaryOp) → PrintsAt ended env (λ rest. words.binary_op op (allow_break rest)) (One (lists.binary_op op))
unfolding spelling words.binary_op lists.binary_op is_word_op binary_text is_word is_start is_part is_letter is_digit all_part is_punctuator is_among is_same punctuators chars is_utf8 lib.Utf8.encode
binary_op_prints env binary.In = prints_word_break env (codes "in") (record { utf8 = refl; ascii = refl; shape = refl })
binary_op_prints env binary.InstanceOf = prints_word_break env (codes "instanceof") (record { utf8 = refl; ascii = refl; shape = refl })
binary_op_prints env binary.EqEq = prints_operator_break env (codes "==") refl (record { utf8 = refl; ascii = refl; shape = refl })
binary_op_prints env binary.NotEq = prints_operator_break env (codes "!=") refl (record { utf8 = refl; ascii = refl; shape = refl })
binary_op_prints env binary.EqEqEq = prints_operator_break env (codes "===") refl (record { utf8 = refl; ascii = refl; shape = refl })
binary_op_prints env binary.NotEqEq = prints_operator_break env (codes "!==") refl (record { utf8 = refl; ascii = refl; shape = refl })
binary_op_prints env binary.Lt = prints_operator_break env (codes "<") refl (record { utf8 = refl; ascii = refl; shape = refl })
binary_op_prints env binary.LtEq = prints_operator_break env (codes "<=") refl (record { utf8 = refl; ascii = refl; shape = refl })
binary_op_prints env binary.Gt = prints_operator_break env (codes ">") refl (record { utf8 = refl; ascii = refl; shape = refl })
binary_op_prints env binary.GtEq = prints_operator_break env (codes ">=") refl (record { utf8 = refl; ascii = refl; shape = refl })
binary_op_prints env binary.LShift = prints_operator_break env (codes "<<") refl (record { utf8 = refl; ascii = refl; shape = refl })
binary_op_prints env binary.RShift = prints_operator_break env (codes ">>") refl (record { utf8 = refl; ascii = refl; shape = refl })
binary_op_prints env binary.ZeroFillRShift = prints_operator_break env (codes ">>>") refl (record { utf8 = refl; ascii = refl; shape = refl })
binary_op_prints env binary.Add = prints_operator_break env (codes "+") refl (record { utf8 = refl; ascii = refl; shape = refl })
binary_op_prints env binary.Sub = prints_operator_break env (codes "-") refl (record { utf8 = refl; ascii = refl; shape = refl })
binary_op_prints env binary.Mul = prints_operator_break env (codes "*") refl (record { utf8 = refl; ascii = refl; shape = refl })
binary_op_prints env binary.Div = prints_operator_break env (codes "/") refl (record { utf8 = refl; ascii = refl; shape = refl })
binary_op_prints env binary.Mod = prints_operator_break env (codes "%") refl (record { utf8 = refl; ascii = refl; shape = refl })
binary_op_prints env binary.BitOr = prints_operator_break env (codes "|") refl (record { utf8 = refl; ascii = refl; shape = refl })
binary_op_prints env binary.BitXor = prints_operator_break env (codes "^") refl (record { utf8 = refl; ascii = refl; shape = refl })
binary_op_prints env binary.BitAnd = prints_operator_break env (codes "&") refl (record { utf8 = refl; ascii = refl; shape = refl })
binary_op_prints env binary.LogicalOr = prints_operator_break env (codes "||") refl (record { utf8 = refl; ascii = refl; shape = refl })
binary_op_prints env binary.LogicalAnd = prints_operator_break env (codes "&&") refl (record { utf8 = refl; ascii = refl; shape = refl })
binary_op_prints env binary.Exp = prints_operator_break env (codes "**") refl (record { utf8 = refl; ascii = refl; shape = refl })
binary_op_prints env binary.NullishCoalescing = prints_operator_break env (codes "??") refl (record { utf8 = refl; ascii = refl; shape = refl })

assign_op_prints : (env : Env) (op : AssignOp) → Prints env (operator (assign_text op)) (One (lists.assign_op op))
unfolding lists.assign_op assign_text is_punctuator is_among is_same punctuators chars is_utf8 lib.Utf8.encode
assign_op_prints env assign.Assign = prints_operator env (codes "=") (record { utf8 = refl; ascii = refl; shape = refl })
assign_op_prints env assign.AddAssign = prints_operator env (codes "+=") (record { utf8 = refl; ascii = refl; shape = refl })
assign_op_prints env assign.SubAssign = prints_operator env (codes "-=") (record { utf8 = refl; ascii = refl; shape = refl })
assign_op_prints env assign.MulAssign = prints_operator env (codes "*=") (record { utf8 = refl; ascii = refl; shape = refl })
assign_op_prints env assign.DivAssign = prints_operator env (codes "/=") (record { utf8 = refl; ascii = refl; shape = refl })
assign_op_prints env assign.ModAssign = prints_operator env (codes "%=") (record { utf8 = refl; ascii = refl; shape = refl })
assign_op_prints env assign.LShiftAssign = prints_operator env (codes "<<=") (record { utf8 = refl; ascii = refl; shape = refl })
assign_op_prints env assign.RShiftAssign = prints_operator env (codes ">>=") (record { utf8 = refl; ascii = refl; shape = refl })
assign_op_prints env assign.ZeroFillRShiftAssign = prints_operator env (codes ">>>=") (record { utf8 = refl; ascii = refl; shape = refl })
assign_op_prints env assign.BitOrAssign = prints_operator env (codes "|=") (record { utf8 = refl; ascii = refl; shape = refl })
assign_op_prints env assign.BitXorAssign = prints_operator env (codes "^=") (record { utf8 = refl; ascii = refl; shape = refl })
assign_op_prints env assign.BitAndAssign = prints_operator env (codes "&=") (record { utf8 = refl; ascii = refl; shape = refl })
assign_op_prints env assign.ExpAssign = prints_operator env (codes "**=") (record { utf8 = refl; ascii = refl; shape = refl })
assign_op_prints env assign.AndAssign = prints_operator env (codes "&&=") (record { utf8 = refl; ascii = refl; shape = refl })
assign_op_prints env assign.OrAssign = prints_operator env (codes "||=") (record { utf8 = refl; ascii = refl; shape = refl })
assign_op_prints env assign.NullishAssign = prints_operator env (codes "??=") (record { utf8 = refl; ascii = refl; shape = refl })

dot_is_mark : IsMark (codes ".")
unfolding is_punctuator is_among is_same punctuators chars is_utf8 lib.Utf8.encode
dot_is_mark = record { utf8 = refl; ascii = refl; shape = refl }

question_dot_is_mark : IsMark (codes "?.")
unfolding is_punctuator is_among is_same punctuators chars is_utf8 lib.Utf8.encode
question_dot_is_mark = record { utf8 = refl; ascii = refl; shape = refl }

star_is_mark : IsMark (codes "*")
unfolding is_punctuator is_among is_same punctuators chars is_utf8 lib.Utf8.encode
star_is_mark = record { utf8 = refl; ascii = refl; shape = refl }

ellipsis_is_mark : IsMark (codes "...")
unfolding is_punctuator is_among is_same punctuators chars is_utf8 lib.Utf8.encode
ellipsis_is_mark = record { utf8 = refl; ascii = refl; shape = refl }

pub opens_is_mark : IsMark (codes "[")
unfolding is_punctuator is_among is_same punctuators chars is_utf8 lib.Utf8.encode
opens_is_mark = record { utf8 = refl; ascii = refl; shape = refl }

pub closes_is_mark : IsMark (codes "]")
unfolding is_punctuator is_among is_same punctuators chars is_utf8 lib.Utf8.encode
closes_is_mark = record { utf8 = refl; ascii = refl; shape = refl }

pub question_is_mark : IsMark (codes "?")
unfolding is_punctuator is_among is_same punctuators chars is_utf8 lib.Utf8.encode
question_is_mark = record { utf8 = refl; ascii = refl; shape = refl }

pub colon_is_mark : IsMark (codes ":")
unfolding is_punctuator is_among is_same punctuators chars is_utf8 lib.Utf8.encode
colon_is_mark = record { utf8 = refl; ascii = refl; shape = refl }

pub paren_opens_is_mark : IsMark (codes "(")
unfolding is_punctuator is_among is_same punctuators chars is_utf8 lib.Utf8.encode
paren_opens_is_mark = record { utf8 = refl; ascii = refl; shape = refl }

pub paren_closes_is_mark : IsMark (codes ")")
unfolding is_punctuator is_among is_same punctuators chars is_utf8 lib.Utf8.encode
paren_closes_is_mark = record { utf8 = refl; ascii = refl; shape = refl }

this_is_word : IsWord (codes "this")
unfolding is_word is_start is_part is_letter is_digit all_part chars is_utf8 lib.Utf8.encode
this_is_word = record { utf8 = refl; ascii = refl; shape = refl }

new_is_word : IsWord (codes "new")
unfolding is_word is_start is_part is_letter is_digit all_part chars is_utf8 lib.Utf8.encode
new_is_word = record { utf8 = refl; ascii = refl; shape = refl }

target_is_word : IsWord (codes "target")
unfolding is_word is_start is_part is_letter is_digit all_part chars is_utf8 lib.Utf8.encode
target_is_word = record { utf8 = refl; ascii = refl; shape = refl }

import_is_word : IsWord (codes "import")
unfolding is_word is_start is_part is_letter is_digit all_part chars is_utf8 lib.Utf8.encode
import_is_word = record { utf8 = refl; ascii = refl; shape = refl }

meta_is_word : IsWord (codes "meta")
unfolding is_word is_start is_part is_letter is_digit all_part chars is_utf8 lib.Utf8.encode
meta_is_word = record { utf8 = refl; ascii = refl; shape = refl }

yield_is_word : IsWord (codes "yield")
unfolding is_word is_start is_part is_letter is_digit all_part chars is_utf8 lib.Utf8.encode
yield_is_word = record { utf8 = refl; ascii = refl; shape = refl }

await_is_word : IsWord (codes "await")
unfolding is_word is_start is_part is_letter is_digit all_part chars is_utf8 lib.Utf8.encode
await_is_word = record { utf8 = refl; ascii = refl; shape = refl }

-- a mark between two blanks
pub spaced_prints : (env : Env) (t : List ℕ) → allows_break t ≡ false → IsMark t → Prints env (words.spaced_punct t) (mark t)
unfolding words.spaced_punct
spaced_prints env t u w = after (writes_formatting_space env) (before (prints_unbroken env t u w) (writes_formatting_space env))

-- ---- expressions

pub this_prints : (env : Env) (n : this_exprs.ThisExpr) → Prints env (words.this n) (lists.this_expr n)
unfolding words.this lists.this_expr
this_prints env n = after (writes_leading env n.span.lo) (prints_keyword env (Some n.span) (codes "this") this_is_word)

pub ident_prints : {X : Type 0} (l : Linked X) (n : Ident) → Prints l.env (words.ident n) (names.ident n)
unfolding words.ident names.ident
ident_prints l n = prints_ident l.env n.span (string_bytes n.sym) n.optional l.leaves_out

pub ident_name_prints : {X : Type 0} (l : Linked X) (n : IdentName) → Prints l.env (words.ident_name n) (names.ident_name n)
unfolding words.ident_name names.ident_name
ident_name_prints l n = prints_name l.env n.span (string_bytes n.sym) l.leaves_out

pub private_name_prints : {X : Type 0} (l : Linked X) (n : PrivateName) → Prints l.env (words.private_name n) (names.private_name n)
unfolding words.private_name names.private_name
private_name_prints l n = prints_private l.env n.span (string_bytes n.name) l.leaves_out

pub unary_prints : {X : Type 0} (l : Linked X) (n : UnaryExpr X) → Prints l.env (words.unary l.asks l.items n) (lists.unary_expr l.reads n)
unfolding words.unary lists.unary_expr
unary_prints l n = after (writes_opened l.env n.span) (then (unary_op_prints l.env n.op) (after (writes_unary_gap l.env n.op (l.asks n.arg.node.value)) (expr_at l n.arg Plain)))

-- behind `[no LineTerminator here]`
joined_op_prints : (env : Env) (op : UpdateOp) → PrintsAt joined env (operator (update_text op)) (phrases.same_line > One (lists.update_op op))
unfolding lists.update_op update_text is_punctuator is_among is_same punctuators chars is_utf8 lib.Utf8.encode
joined_op_prints env update.PlusPlus = prints_joined_operator env (codes "++") (record { utf8 = refl; ascii = refl; shape = refl })
joined_op_prints env update.MinusMinus = prints_joined_operator env (codes "--") (record { utf8 = refl; ascii = refl; shape = refl })

update_case : (env : Env) (prefix : Bool) (op : UpdateOp) (p : Part) (f : Phrase) → Prints env p f → Prints env (λ rest. cond prefix (operator (update_text op) (p rest)) (p (operator (update_text op) rest))) (cond prefix (One (lists.update_op op) > f) (f > phrases.same_line > One (lists.update_op op)))
update_case env true op p f h = then (update_op_prints env op) h
update_case env false op p f h = then h (joined_op_prints env op)

pub update_prints : {X : Type 0} (l : Linked X) (n : UpdateExpr X) → Prints l.env (words.update l.items n) (lists.update_expr l.reads n)
unfolding words.update words.update_parts lists.update_expr
update_prints l n = after (writes_opened l.env n.span) (update_case l.env n.prefix n.op _ _ (expr_at l n.arg Plain))

pub bin_prints : {X : Type 0} (l : Linked X) (n : BinExpr X) (context : Context) → Prints l.env (words.bin l.asks l.items n context) (lists.bin_expr l.reads n)
unfolding words.bin words.bin_trailing words.bin_operator lists.bin_expr
bin_prints l n context =
    after (writes_bin_opened l.env context n.span)
    (then (expr_at l n.left LeftOperand)
    (after (writes_blank l.env (words.before_op n.op (l.asks n.left.node.value)))
    (then (binary_op_prints l.env n.op)
    (after (writes_blank l.env (words.after_op n.op (l.asks n.right.node.value))) (expr_at l n.right Plain)))))

pub computed_prints : {X : Type 0} (l : Linked X) (n : ComputedPropName X) → Prints l.env (words.computed_prop_name l.items n) (keys.computed_prop_name l.reads n)
unfolding words.computed_prop_name keys.computed_prop_name
computed_prints l n =
    after (writes_position l.env n.span.lo)
    (then (prints_punct l.env (codes "[") opens_is_mark)
    (then (expr_at l n.expr Plain)
    (before (prints_punct l.env (codes "]") closes_is_mark) (writes_position l.env n.span.hi))))

member_prop_prints : {X : Type 0} (l : Linked X) (n : MemberProp X) → Prints l.env (words.member_prop l.items n) (lists.member_prop l.reads n)
unfolding words.member_prop lists.member_prop
member_prop_prints l (member_props.Ident n) = after (writes_comments_before l.env n.span.lo) (then (prints_punct l.env (codes ".") dot_is_mark) (ident_name_prints l n))
member_prop_prints l (member_props.Computed n) = computed_prints l n
member_prop_prints l (member_props.PrivateName n) = after (writes_comments_before l.env n.span.lo) (then (prints_punct l.env (codes ".") dot_is_mark) (private_name_prints l n))

-- the object before a property
object_prints : {X : Type 0} (l : Linked X) (n : ExprBox X) (prop : MemberProp X) → Prints l.env (l.items n.node.value (Whole (words.object_place prop))) (callee_at l.reads n)
unfolding words.object_place
object_prints l n (member_props.Ident prop) = l.law n.node.value (Whole (DottedObject prop.span.lo)) IsCallee
object_prints l n (member_props.PrivateName prop) = l.law n.node.value (Whole (DottedObject prop.span.lo)) IsCallee
object_prints l n (member_props.Computed prop) = l.law n.node.value (Whole Object) IsCallee

pub member_prints : {X : Type 0} (l : Linked X) (n : MemberExpr X) → Prints l.env (words.member l.items n) (lists.member_expr l.reads n)
unfolding words.member lists.member_expr
member_prints l n = after (writes_opened l.env n.span) (then (object_prints l n.obj n.prop) (before (member_prop_prints l n.prop) (writes_position l.env n.span.hi)))

super_prop_prints : {X : Type 0} (l : Linked X) (n : SuperProp X) → Prints l.env (words.super_prop l.items n) (lists.super_prop l.reads n)
unfolding words.super_prop lists.super_prop
super_prop_prints l (super_props.Ident n) = after (writes_comments_before l.env n.span.lo) (then (prints_punct l.env (codes ".") dot_is_mark) (ident_name_prints l n))
super_prop_prints l (super_props.Computed n) = computed_prints l n

pub super_prop_expr_prints : {X : Type 0} (l : Linked X) (n : SuperPropExpr X) → Prints l.env (words.super_prop_expr l.items n) (lists.super_prop_expr l.reads n)
unfolding words.super_prop_expr calls.super_keyword lists.super_prop_expr
super_prop_expr_prints l n = after (writes_opened l.env n.span) (then (prints_keyword l.env (Some n.obj.span) (codes "super") super_is_word) (super_prop_prints l n.prop))

-- ---- optional chains

chain_mark_prints : {X : Type 0} (env : Env) (optional : Bool) (n : MemberProp X) → PrintsAt open_ env (words.chain_mark optional n) (lists.chain_mark optional n)
unfolding words.chain_mark lists.chain_mark
chain_mark_prints env true n = prints_wider open_ refl (prints_punct env (codes "?.") question_dot_is_mark)
chain_mark_prints env false (member_props.Computed n) = prints_nothing
chain_mark_prints env false n = prints_wider open_ refl (prints_punct env (codes ".") dot_is_mark)

chain_prop_prints : {X : Type 0} (l : Linked X) (n : MemberProp X) → Prints l.env (words.chain_prop l.items n) (lists.chain_prop l.reads n)
unfolding words.chain_prop lists.chain_prop
chain_prop_prints l (member_props.Ident n) = ident_name_prints l n
chain_prop_prints l (member_props.Computed n) = computed_prints l n
chain_prop_prints l (member_props.PrivateName n) = private_name_prints l n

pub chain_member_prints : {X : Type 0} (l : Linked X) (optional : Bool) (n : MemberExpr X) → Prints l.env (words.chain_member l.items optional n) (lists.chain_member l.reads optional n)
unfolding words.chain_member lists.chain_member
chain_member_prints l optional n = then (l.law n.obj.node.value (Whole Callee) IsCallee) (then (chain_mark_prints l.env optional n.prop) (chain_prop_prints l n.prop))

chain_base_prints : {X : Type 0} (l : Linked X) (optional : Bool) (n : OptChainBase X) → Prints l.env (words.chain_base l.items optional n) (lists.chain_base l.reads optional n)
unfolding words.chain_base lists.chain_base
chain_base_prints l optional (chain_bases.Member n) = l.law n.node.value (Whole (chain optional)) (ChainMember optional)
chain_base_prints l optional (chain_bases.Call n) = l.law n.node.value (Whole (chain optional)) (ChainCall optional)

pub opt_chain_prints : {X : Type 0} (l : Linked X) (n : OptChainExpr X) → Prints l.env (words.opt_chain l.items n) (lists.opt_chain_expr l.reads n)
unfolding words.opt_chain lists.opt_chain_expr
opt_chain_prints l n = after (writes_leading l.env n.span.lo) (chain_base_prints l n.optional n.base)

-- ---- words with a dot, assignments, `yield` and `await`

meta_prop_prints : (env : Env) (kind : MetaPropKind) → Prints env (words.meta_prop kind) (lists.meta_prop kind)
unfolding words.meta_prop lists.meta_prop
meta_prop_prints env meta_props.NewTarget = then (prints_keyword env None (codes "new") new_is_word) (then (prints_punct env (codes ".") dot_is_mark) (prints_keyword env None (codes "target") target_is_word))
meta_prop_prints env meta_props.ImportMeta = then (prints_keyword env None (codes "import") import_is_word) (then (prints_punct env (codes ".") dot_is_mark) (prints_keyword env None (codes "meta") meta_is_word))

pub meta_prop_expr_prints : (env : Env) (n : MetaPropExpr) → Prints env (words.meta_prop_expr n) (lists.meta_prop_expr n)
unfolding words.meta_prop_expr lists.meta_prop_expr
meta_prop_expr_prints env n = after (writes_opened env n.span) (meta_prop_prints env n.kind)

pub assign_prints : {X : Type 0} (l : Linked X) (n : AssignExpr X) → Prints l.env (words.assign l.items n) (lists.assign_expr l.reads n)
unfolding words.assign lists.assign_expr
assign_prints l n =
    after (writes_leading l.env n.span.lo)
    (then (l.law n.left.node.value (Whole Plain) AssignmentTarget)
    (after (writes_formatting_space l.env)
    (then (assign_op_prints l.env n.op) (after (writes_formatting_space l.env) (expr_at l n.right Plain)))))

yield_in_parentheses : {X : Type 0} (l : Linked X) (delegate : Bool) (n : ExprBox X) → Prints l.env (words.yield_argument_in l.asks l.items delegate n.node.value true) (mark (codes "(") > value_at l.reads n > mark (codes ")"))
unfolding words.yield_argument_in
yield_in_parentheses l delegate n = prints_parenthesized (expr_at l n Plain)

yield_bare : {X : Type 0} (l : Linked X) (delegate : Bool) (n : ExprBox X) → Prints l.env (words.yield_argument_in l.asks l.items delegate n.node.value false) (OptionalParentheses Argument (value_at l.reads n))
unfolding words.yield_argument_in
yield_bare l delegate n = after (writes_blank l.env (cond delegate false (l.asks n.node.value).starts)) (prints_bare (expr_at l n Plain))

yield_argument_prints : {X : Type 0} (l : Linked X) (delegate : Bool) (n : ExprBox X) → Prints l.env (words.yield_argument l.asks l.items delegate n.node.value) (OptionalParentheses Argument (value_at l.reads n))
unfolding words.yield_argument
yield_argument_prints l delegate n = prints_by_test (words.yield_argument_in l.asks l.items delegate n.node.value) (l.asks n.node.value).breaks (l.quiet n.node.value) (parentheses_among l.env.config Argument (value_at l.reads n)) (yield_in_parentheses l delegate n) (yield_bare l delegate n)

yield_arg_prints : {X : Type 0} (l : Linked X) (arg : Option (ExprBox X)) → PrintsAt open_ l.env (words.yield_arg l.asks l.items true arg) (lists.yield_arg l.reads arg)
unfolding words.yield_arg lists.yield_arg
yield_arg_prints l None = prints_nothing
yield_arg_prints l (Some n) = prints_wider open_ refl (yield_argument_prints l true n)

yield_case : {X : Type 0} (l : Linked X) (delegate : Bool) (arg : Option (ExprBox X)) → Prints l.env (λ rest. keyword None (codes "yield") (words.yield_star delegate (words.yield_arg l.asks l.items delegate arg rest))) (word (codes "yield") > lists.yield_rest l.reads delegate arg)
unfolding words.yield_star words.yield_arg lists.yield_rest
yield_case l true arg = joined_then l.env None (codes "yield") yield_is_word (then (prints_operator l.env (codes "*") star_is_mark) (yield_arg_prints l arg))
yield_case l false None = then (prints_keyword l.env None (codes "yield") yield_is_word) prints_nothing
yield_case l false (Some n) = joined_then l.env None (codes "yield") yield_is_word (yield_argument_prints l false n)

pub yield_prints : {X : Type 0} (l : Linked X) (n : YieldExpr X) → Prints l.env (words.yield_expr l.asks l.items n) (lists.yield_expr l.reads n)
unfolding words.yield_expr lists.yield_expr
yield_prints l n = after (writes_opened l.env n.span) (yield_case l n.delegate n.arg)

pub await_prints : {X : Type 0} (l : Linked X) (n : AwaitExpr X) → Prints l.env (words.await_expr l.items n) (lists.await_expr l.reads n)
unfolding words.await_expr lists.await_expr
await_prints l n = after (writes_opened l.env n.span) (then (prints_keyword l.env None (codes "await") await_is_word) (after (writes_space l.env) (expr_at l n.arg Plain)))

pub spread_element_prints : {X : Type 0} (l : Linked X) (n : SpreadElement X) → Prints l.env (words.spread_element l.asks l.items n) (prop_lists.spread_element l.reads n)
unfolding words.spread_element prop_lists.spread_element
spread_element_prints l n =
    let span : Span = spread_element_span (place_of l.asks) n in
    after (writes_opened l.env span) (then (prints_punct l.env (codes "...") ellipsis_is_mark) (before (expr_at l n.expr Plain) (writes_position l.env span.hi)))

pub cond_prints : {X : Type 0} (l : Linked X) (n : CondExpr X) → Prints l.env (words.choice l.items n) (lists.cond_expr l.reads n)
unfolding words.choice lists.cond_expr
cond_prints l n =
    after (writes_opened l.env n.span)
    (then (expr_at l n.test Plain)
    (then (spaced_prints l.env (codes "?") refl question_is_mark)
    (then (expr_at l n.cons Plain) (then (spaced_prints l.env (codes ":") refl colon_is_mark) (expr_at l n.alt Plain)))))

pub seq_prints : {X : Type 0} (l : Linked X) (n : SeqExpr X) → Prints l.env (words.seq l.items n) (lists.seq_expr l.reads n)
unfolding words.seq lists.seq_expr
seq_prints l n = after (writes_opened l.env n.span) (some_listed_prints l.env (words.held l.items) (lists.expr_at l.reads) (λ x. expr_at l x Plain) n.exprs.items)

pub paren_prints : {X : Type 0} (l : Linked X) (n : ParenExpr X) → Prints l.env (words.paren l.items n) (lists.paren_expr l.reads n)
unfolding words.paren lists.paren_expr
paren_prints l n =
    after (writes_commit l.env)
    (after (writes_opened l.env n.span)
    (then (prints_punct l.env (codes "(") paren_opens_is_mark)
    (then (expr_at l n.expr Plain)
    (after (writes_position_before l.env n.span.hi) (prints_punct l.env (codes ")") paren_closes_is_mark)))))

pub lit_prints : (env : Env) (n : Lit) (context : Context) → Prints env (lit_at n context) (lit_lists.lit n)
unfolding lit_at lit_lists.lit
lit_prints env (lits.Num n) Object = prints_number env n.value
lit_prints env (lits.Num n) (DottedObject prop) = prints_number_object env n.value prop
lit_prints env (lits.JSXText n) context = prints_never
lit_prints env n context = prints_lit env n
