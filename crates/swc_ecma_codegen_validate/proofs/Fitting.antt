-- Where no rule is broken in what links hold, it is well-formed there: from this the lemmas of each type of node start.
use Rattle.std.proofs.Common.{◌≡◌, ℕ, suc, Bool, true, false, if◌then◌else◌, List, [], ◌∷◌, Option, Some, None, refl}
use Rattle.swc_ecma_codegen_tree.specs.Links.{BlockStmtBox, ExprBox, ObjectLitBox, PatBox, StmtBox, TsNamespaceBodyBox}
use Rattle.swc_ecma_codegen_grammar.specs.declared.roles.Role.{Role}
use Rattle.swc_ecma_codegen_grammar.specs.declared.roles.Role.TheVariants.{Block, ClassTail, ClassWord, DottedBody, Expression, FieldValue, Function, FunctionHead, MethodDecorators, MethodHead, ObjectLiteral, Pattern, Statement}
use Rattle.swc_ecma_codegen_grammar.specs.ClassPhrases.{prop_value}
use Rattle.swc_ecma_codegen_grammar.specs.ElementPhrases.{element}
use Rattle.swc_ecma_codegen_grammar.specs.ExprPhrases.{yield_arg}
use Rattle.swc_ecma_codegen_grammar.specs.FunctionPhrases.{function_body}
use Rattle.swc_ecma_codegen_grammar.specs.ModulePhrases.{attributes}
use Rattle.swc_ecma_codegen_grammar.specs.PatPhrases.{initializer}
use Rattle.swc_ecma_codegen_grammar.specs.PropPhrases.{optional_body}
use Rattle.swc_ecma_codegen_grammar.specs.StmtPhrases.{case_test, catch_param, else_branch, finalizer, optional_value, return_rest}
use Rattle.swc_ecma_codegen_grammar.specs.TsDeclPhrases.{module_tail}
use Rattle.swc_ecma_codegen_grammar.specs.Phrases.{Phrase, is_possible}
use Rattle.swc_ecma_codegen_validate.specs.Possible.{all_possible}
use Rattle.swc_ecma_codegen_validate.specs.Rules.{Findings, in_each, in_some}

-- What a link holds is well-formed in a role where no rule is broken in it. And so it is in other roles of the same node: the words before
-- a function are where the function is, and a field has the value that an expression is.
pub record Held {X : Type 0} (f : X → Role → Findings) (g : X → Role → Phrase) : Type 0 where
  pub node : (x : X) (role : Role) → (f x role).none → is_possible (g x role) ≡ true
  pub function_head : (x : X) → (f x Function).none → is_possible (g x FunctionHead) ≡ true
  pub method_head : (x : X) → (f x Function).none → is_possible (g x MethodHead) ≡ true
  pub member_head : (x : X) → (f x MethodDecorators).none → is_possible (g x MethodHead) ≡ true
  pub class_word : (x : X) → (f x ClassTail).none → is_possible (g x ClassWord) ≡ true
  pub field_value : (x : X) → (f x Expression).none → is_possible (g x FieldValue) ≡ true

-- each of a list, and what is there if it is
pub each_fits : {A : Type 0} (find : A → Findings) (read : A → Phrase) (i : ℕ) (xs : List A) → (in_each find i xs).none → ((x : A) → (find x).none → is_possible (read x) ≡ true) → all_possible read xs ≡ true
unfolding in_each all_possible
each_fits find read i [] h safe = refl
each_fits find read i (x ∷ xs) h safe = simp (safe x h.0, each_fits find read (suc i) xs h.1 safe)

pub some_fits : {A : Type 0} (find : A → Findings) (read : A → Phrase) (o : Option A) → (in_some find o).none → ((x : A) → (find x).none → is_possible (read x) ≡ true) → is_possible (element read o) ≡ true
unfolding in_some element is_possible
some_fits find read None h safe = refl
some_fits find read (Some x) h safe = safe x h

pub either_fits : (b : Bool) (p q : Phrase) → is_possible p ≡ true → is_possible q ≡ true → is_possible (if b then p else q) ≡ true
either_fits true p q hp hq = hp
either_fits false p q hp hq = hq

-- what may be there, with what stands before it
module _ {X : Type 0} (f : X → Role → Findings) (g : X → Role → Phrase) (held : Held f g) where
  pub initializer_fits : (o : Option (ExprBox X)) → (in_some {A = ExprBox X} (λ x. f x.node.value Expression) o).none → is_possible (initializer g o) ≡ true
  unfolding in_some initializer is_possible
  initializer_fits None h = refl
  initializer_fits (Some n) h = simp (held.node n.node.value Expression h)

  pub optional_value_fits : (o : Option (ExprBox X)) → (in_some {A = ExprBox X} (λ x. f x.node.value Expression) o).none → is_possible (optional_value g o) ≡ true
  unfolding in_some optional_value is_possible
  optional_value_fits None h = refl
  optional_value_fits (Some n) h = simp (held.node n.node.value Expression h)

  pub return_rest_fits : (o : Option (ExprBox X)) → (in_some {A = ExprBox X} (λ x. f x.node.value Expression) o).none → is_possible (return_rest g o) ≡ true
  unfolding in_some return_rest is_possible
  return_rest_fits None h = refl
  return_rest_fits (Some n) h = simp (held.node n.node.value Expression h)

  pub yield_arg_fits : (o : Option (ExprBox X)) → (in_some {A = ExprBox X} (λ x. f x.node.value Expression) o).none → is_possible (yield_arg g o) ≡ true
  unfolding in_some yield_arg is_possible
  yield_arg_fits None h = refl
  yield_arg_fits (Some n) h = simp (held.node n.node.value Expression h)

  pub else_branch_fits : (o : Option (StmtBox X)) → (in_some {A = StmtBox X} (λ x. f x.node.value Statement) o).none → is_possible (else_branch g o) ≡ true
  unfolding in_some else_branch is_possible
  else_branch_fits None h = refl
  else_branch_fits (Some n) h = simp (held.node n.node.value Statement h)

  pub case_test_fits : (o : Option (ExprBox X)) → (in_some {A = ExprBox X} (λ x. f x.node.value Expression) o).none → is_possible (case_test g o) ≡ true
  unfolding in_some case_test is_possible
  case_test_fits None h = refl
  case_test_fits (Some n) h = simp (held.node n.node.value Expression h)

  pub catch_param_fits : (o : Option (PatBox X)) → (in_some {A = PatBox X} (λ x. f x.node.value Pattern) o).none → is_possible (catch_param g o) ≡ true
  unfolding in_some catch_param is_possible
  catch_param_fits None h = refl
  catch_param_fits (Some n) h = simp (held.node n.node.value Pattern h)

  pub finalizer_fits : (o : Option (BlockStmtBox X)) → (in_some {A = BlockStmtBox X} (λ x. f x.node.value Block) o).none → is_possible (finalizer g o) ≡ true
  unfolding in_some finalizer is_possible
  finalizer_fits None h = refl
  finalizer_fits (Some n) h = simp (held.node n.node.value Block h)

  pub function_body_fits : (o : Option (BlockStmtBox X)) → (in_some {A = BlockStmtBox X} (λ x. f x.node.value Block) o).none → is_possible (function_body g o) ≡ true
  unfolding in_some function_body is_possible
  function_body_fits None h = refl
  function_body_fits (Some n) h = simp (held.node n.node.value Block h)

  pub optional_body_fits : (o : Option (BlockStmtBox X)) → (in_some {A = BlockStmtBox X} (λ x. f x.node.value Block) o).none → is_possible (optional_body g o) ≡ true
  unfolding in_some optional_body is_possible
  optional_body_fits None h = refl
  optional_body_fits (Some n) h = simp (held.node n.node.value Block h)

  pub attributes_fits : (o : Option (ObjectLitBox X)) → (in_some {A = ObjectLitBox X} (λ x. f x.node.value ObjectLiteral) o).none → is_possible (attributes g o) ≡ true
  unfolding in_some attributes is_possible
  attributes_fits None h = refl
  attributes_fits (Some n) h = simp (held.node n.node.value ObjectLiteral h)

  pub prop_value_fits : (o : Option (ExprBox X)) → (in_some {A = ExprBox X} (λ x. f x.node.value Expression) o).none → is_possible (prop_value g o) ≡ true
  unfolding in_some prop_value is_possible
  prop_value_fits None h = refl
  prop_value_fits (Some n) h = simp (held.field_value n.node.value h)

  pub module_tail_fits : (o : Option (TsNamespaceBodyBox X)) → (in_some {A = TsNamespaceBodyBox X} (λ x. f x.node.value DottedBody) o).none → is_possible (module_tail g o) ≡ true
  unfolding in_some module_tail is_possible
  module_tail_fits None h = refl
  module_tail_fits (Some n) h = simp (held.node n.node.value DottedBody h)
