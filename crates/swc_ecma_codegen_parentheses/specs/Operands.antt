-- Operands of operators, and what is called or has a property: the nonterminals that stand there, with their parameters. proofs/OperandParts has
-- them from the productions.
use Rattle.std.specs.Prelude.{◌≡◌, ⊤, Bool, true, false, Option, Some, None}
use Rattle.swc_ecma_codegen_syntax.specs.declared.lookahead.Lookahead.{Lookahead}
use Rattle.swc_ecma_codegen_syntax.specs.declared.lookahead.Lookahead.TheVariants.{BodyStart, ForStart, StatementStart}
use Rattle.swc_ecma_codegen_syntax.specs.declared.nonterminals.Nonterminal.{Nonterminal}
use Rattle.swc_ecma_codegen_syntax.specs.declared.nonterminals.Nonterminal.TheVariants as nt
use Rattle.swc_ecma_codegen_syntax.specs.declared.parameters.Parameters.{Parameters}
use Rattle.swc_ecma_codegen_syntax.specs.ExprForms.{is_less, left_nonterminal, right_nonterminal}
use Rattle.swc_ecma_codegen_syntax.specs.MemberForms.{chained}
use Rattle.swc_ecma_codegen_syntax.specs.Parameters.{before_operator, of_for, of_script, to_end, with_in}
use Rattle.swc_ecma_codegen_parentheses.specs.declared.operands.Context.{Context}
use Rattle.swc_ecma_codegen_parentheses.specs.declared.operands.Operand.{Operand}
use Rattle.swc_ecma_codegen_parentheses.specs.declared.operands.Operand.TheVariants as operands
use Rattle.swc_ecma_codegen_parentheses.specs.declared.mends.Usage.{Usage}
use Rattle.swc_ecma_codegen_parentheses.specs.declared.mends.Usage.TheVariants as usages

-- the nonterminal, sections 13.4 to 13.16; of what is called or has a property `used` says it
unfoldable pub operand_nonterminal : Operand → Nonterminal
operand_nonterminal (operands.Left op) = left_nonterminal op
operand_nonterminal (operands.Right op) = right_nonterminal op
operand_nonterminal operands.Unary = nt.UnaryExpression
operand_nonterminal operands.Prefix = nt.UnaryExpression
operand_nonterminal operands.Postfix = nt.LeftHandSideExpression
operand_nonterminal operands.Test = nt.ShortCircuitExpression
operand_nonterminal operands.Branch = nt.AssignmentExpression
operand_nonterminal operands.Last = nt.AssignmentExpression
operand_nonterminal operands.Each = nt.AssignmentExpression
operand_nonterminal operands.Body = nt.AssignmentExpression
operand_nonterminal operands.Inside = nt.Expression
operand_nonterminal operand = nt.CallOrMember

-- its parameters, by those of the whole
unfoldable pub operand_parameters : Operand → Parameters → Parameters
operand_parameters (operands.Left op) c = before_operator (is_less op) c
operand_parameters (operands.Right op) c = c
operand_parameters operands.Unary c = to_end c
operand_parameters operands.Prefix c = with_in c
operand_parameters operands.Postfix c = with_in c
operand_parameters operands.Test c = c
operand_parameters operands.Branch c = with_in c
operand_parameters operands.Last c = c
operand_parameters operands.Each c = c
operand_parameters operands.Body c = c
operand_parameters operands.Inside c = with_in c
operand_parameters operands.New c = to_end c
operand_parameters operands.NewEmpty c = to_end c
operand_parameters operand c = with_in c

-- what its text may not begin with, by that of the whole: the text of the whole begins with that of some
unfoldable pub operand_lookahead : Operand → Option Lookahead → Option Lookahead
operand_lookahead (operands.Left op) l = l
operand_lookahead operands.Postfix l = l
operand_lookahead operands.Test l = l
operand_lookahead operands.Called l = l
operand_lookahead operands.Indexed l = l
operand_lookahead (operands.Chain optional) l = l
operand_lookahead operands.Assigned l = l
operand_lookahead operands.Each l = l
operand_lookahead operands.Body l = Some BodyStart
operand_lookahead operand l = None

-- whether it is a link of a chain, section 13.3.9, and whether `?.` stands in it
unfoldable pub operand_chain : Operand → Option Bool
operand_chain (operands.Chain optional) = Some optional
operand_chain operand = None

unfoldable pub operand_context : Operand → Context → Context
operand_context operand at =
    record { parameters = operand_parameters operand at.parameters; lookahead = operand_lookahead operand at.lookahead; chain = operand_chain operand }

-- what stands before a property or arguments: in a chain before `?.`, or behind another link
unfoldable pub object_nonterminal : Option Bool → Nonterminal
object_nonterminal None = nt.CallOrMember
object_nonterminal (Some optional) = chained optional

-- `[` of a property stands right behind, and no `?.`
unfoldable pub before_bracket : Option Bool → Bool
before_bracket (Some true) = false
before_bracket chain = true

-- an operand by itself, in this context, of a link of a chain or of another node
unfoldable pub used : Option Bool → Operand → Context → Usage
used chain operands.Called at = usages.Called (object_nonterminal chain) false at
used chain operands.Indexed at = usages.Called (object_nonterminal chain) (before_bracket chain) at
used chain operands.New at = usages.CalledByNew nt.NewExpression at
used chain operands.NewEmpty at = usages.CalledByNew nt.MemberExpression at
used chain operands.NewCalled at = usages.CalledByNew nt.MemberExpression at
used chain (operands.Chain optional) at = usages.Link at
used chain operands.Assigned at = usages.Link at
used chain operand at = usages.Part (operand_nonterminal operand) at

-- an operand of what stands in a context, by the nonterminal and the context that it stands in itself
unfoldable pub within : Context → Usage → Usage
within at (usages.Operand operand) = used at.chain operand (operand_context operand at)
within at usage = usage

-- under these parameters, with no restriction
abbrev pub free : Parameters → Context
free c = record { parameters = c; lookahead = None; chain = None }

abbrev pub restricted : Lookahead → Parameters → Context
restricted lookahead c = record { parameters = c; lookahead = Some lookahead; chain = None }

-- what stands in brackets, or behind a word of a statement: [+In], and no restriction
unfoldable pub in_brackets : Nonterminal → Usage
in_brackets place = usages.Part place (free of_script)

-- the same under a restriction
unfoldable pub under : Lookahead → Nonterminal → Usage
under lookahead place = usages.Part place (restricted lookahead of_script)

-- what stands first in the head of `for (a; b; c) {}`: [~In], and no `let [`, section 14.7.4
unfoldable pub in_for_head : Usage
in_for_head = usages.Part nt.Expression (restricted ForStart (of_for of_script))

-- what is declared by a statement, and in the head of a loop: [~In], sections 14.3 and 14.7
abbrev pub declared : Context
declared = free of_script

abbrev pub declared_in_head : Context
declared_in_head = free (of_for of_script)

-- The context of an expression, as far as how it is used tells: of an operand, and of a statement, section 14.5. Of the parameters those of a
-- script stand for all that parentheses don't depend on.
unfoldable pub stands_in : Usage → Context → Type 0
stands_in (usages.Part place at) c = c ≡ at
stands_in (usages.Called place before_bracket at) c = c ≡ at
stands_in (usages.CalledByNew place at) c = c ≡ at
stands_in (usages.Link at) c = c ≡ at
stands_in usages.Statement c = c ≡ restricted StatementStart of_script
stands_in usages.Decorator c = c ≡ free of_script
stands_in usage c = ⊤
