-- Operators, by the punctuator or the word that they are.
use Rattle.std.proofs.Common.{◌≡◌, ℕ, true, false, cond, List, None, refl, sym, subst}
use Rattle.swc_ecma_codegen_common.specs.declared.operators.UnaryOp.{UnaryOp}
use Rattle.swc_ecma_codegen_common.specs.declared.operators.BinaryOp.{BinaryOp}
use Rattle.swc_ecma_codegen_common.specs.Operators.{unary_text, binary_text}
use Rattle.swc_ecma_codegen_settings.specs.Starts as starts
use Rattle.swc_ecma_codegen_tokens.specs.Run.{Part}
use Rattle.swc_ecma_codegen_tokens.specs.Words.{keyword, operator, word_operator, punct, space, operator_between}
use Rattle.swc_ecma_codegen_emit.specs.Exprs.{unary_op, binary_op, spaced_operator, word_between}
use Rattle.swc_ecma_codegen_common.specs.declared.operators.UpdateOp.TheVariants as update
use Rattle.swc_ecma_codegen_emit.specs.declared.operands.OperandKind.{OperandKind}
use Rattle.swc_ecma_codegen_emit.specs.declared.operands.OperandKind.TheVariants as kinds
use Rattle.swc_ecma_codegen_emit.specs.Operands.{is_word_op, begins_greater, space_after}
use Rattle.swc_ecma_codegen_emit.specs.Standing.{Standing, Makes}

pub marked_binary : (op : BinaryOp) (t : List ℕ) (a b : Standing) → is_word_op op ≡ false → t ≡ binary_text op → Makes (operator t) a b → Makes (binary_op op) a b
unfolding binary_op
marked_binary op t a b h e k =
    let P : Part → Type 0 = λ p. Makes p a b in
    subst P (λ i. λ rest. cond (sym h i) (word_operator (binary_text op) rest) (operator (binary_text op) rest)) (subst (λ z. Makes (operator z) a b) e k)

pub worded_binary : (op : BinaryOp) (t : List ℕ) (a b : Standing) → is_word_op op ≡ true → t ≡ binary_text op → Makes (word_operator t) a b → Makes (binary_op op) a b
unfolding binary_op
worded_binary op t a b h e k =
    let P : Part → Type 0 = λ p. Makes p a b in
    subst P (λ i. λ rest. cond (sym h i) (word_operator (binary_text op) rest) (operator (binary_text op) rest)) (subst (λ z. Makes (word_operator z) a b) e k)

-- the same between two blanks
pub marked_between : (op : BinaryOp) (t : List ℕ) (a b : Standing) → is_word_op op ≡ false → t ≡ binary_text op → Makes (operator_between t) a b → Makes (spaced_operator op) a b
unfolding spaced_operator binary_op operator_between
marked_between op t a b h e k =
    let P : Part → Type 0 = λ p. Makes p a b in
    subst P (λ i. λ rest. space (cond (sym h i) (word_operator (binary_text op) (space rest)) (operator (binary_text op) (space rest)))) (subst (λ z. Makes (operator_between z) a b) e k)

pub worded_between : (op : BinaryOp) (t : List ℕ) (a b : Standing) → is_word_op op ≡ true → t ≡ binary_text op → Makes (word_between t) a b → Makes (spaced_operator op) a b
unfolding spaced_operator binary_op word_between
worded_between op t a b h e k =
    let P : Part → Type 0 = λ p. Makes p a b in
    subst P (λ i. λ rest. space (cond (sym h i) (word_operator (binary_text op) (space rest)) (operator (binary_text op) (space rest)))) (subst (λ z. Makes (word_between z) a b) e k)

pub marked_unary : (op : UnaryOp) (t : List ℕ) (a b : Standing) → starts.is_word_op op ≡ false → t ≡ unary_text op → Makes (punct t) a b → Makes (unary_op op) a b
unfolding unary_op
marked_unary op t a b h e k =
    let P : Part → Type 0 = λ p. Makes p a b in
    subst P (λ i. λ rest. cond (sym h i) (keyword None (unary_text op) rest) (punct (unary_text op) rest)) (subst (λ z. Makes (punct z) a b) e k)

pub worded_unary : (op : UnaryOp) (t : List ℕ) (a b : Standing) → starts.is_word_op op ≡ true → t ≡ unary_text op → Makes (keyword None t) a b → Makes (unary_op op) a b
unfolding unary_op
worded_unary op t a b h e k =
    let P : Part → Type 0 = λ p. Makes p a b in
    subst P (λ i. λ rest. cond (sym h i) (keyword None (unary_text op) rest) (punct (unary_text op) rest)) (subst (λ z. Makes (keyword None z) a b) e k)

-- only an operator like `>` may want a blank after `--`
pub not_greater : (kind : OperandKind) (op : BinaryOp) → begins_greater op ≡ false → space_after kind op ≡ false
unfolding space_after
not_greater (kinds.Postfix update.MinusMinus) op h = h
not_greater kind op h = refl
