-- What a node tells those above it.
use Rattle.std.specs.Prelude.{Bool}
use Rattle.swc_ecma_codegen_tree.specs.declared.links.AnyNode.{AnyNode}
use Rattle.swc_ecma_codegen_common.specs.declared.positions.Span.{Span}
use Rattle.swc_ecma_codegen_spans.specs.Spans.{any_span}
use Rattle.swc_ecma_codegen_common.specs.declared.operators.BinaryOp.{BinaryOp}
use Rattle.swc_ecma_codegen_settings.specs.Starts.{any_starts}
use Rattle.swc_ecma_codegen_settings.specs.Ends.{any_ends}
use Rattle.swc_ecma_codegen_emit.specs.declared.operands.OperandKind.{OperandKind}
use Rattle.swc_ecma_codegen_emit.specs.declared.patterns.PatternKind.{PatternKind}
use Rattle.swc_ecma_codegen_emit.specs.declared.nodes.Question.{Question}
use Rattle.swc_ecma_codegen_emit.specs.declared.nodes.Question.TheVariants as questions
use Rattle.swc_ecma_codegen_emit.specs.declared.nodes.Reply.{Reply}
use Rattle.swc_ecma_codegen_emit.specs.declared.nodes.Reply.TheVariants as replies
use Rattle.swc_ecma_codegen_emit.specs.Operands.{any_kind, any_space}
use Rattle.swc_ecma_codegen_emit.specs.Branches.{any_block}
use Rattle.swc_ecma_codegen_emit.specs.Patterns.{any_pattern}
use Rattle.swc_ecma_codegen_emit.specs.Commented.{any_breaks}
use Rattle.swc_ecma_codegen_grammar.specs.CommentMaps.{Maps}

pub record Answers : Type 0 where
  -- where it stands
  pub place : Span
  -- its text begins with a character of a name
  pub starts : Bool
  -- its text ends with one
  pub ends : Bool
  -- its operator
  pub kind : OperandKind
  -- a blank is due before it, after an operator
  pub space : BinaryOp → Bool
  -- what it begins with, where it is a pattern
  pub pattern : PatternKind
  -- it is a block, where it is a statement
  pub block : Bool
  -- a line ends in or after a comment before one of its leftmost parts
  pub breaks : Maps → Bool

-- where what a link holds stands
abbrev pub place_of : {X : Type 0} → (X → Answers) → X → Span
place_of asks x = (asks x).place

unfoldable pub any_answers : AnyNode → Answers
any_answers n = record { place = any_span n; starts = any_starts n; ends = any_ends n; kind = any_kind n; space = any_space n; pattern = any_pattern n; block = any_block n; breaks = any_breaks n }

-- what it answers to a question
unfoldable pub reply_of : Answers → Question → Reply
reply_of a questions.Place = replies.Place a.place
reply_of a questions.Starts = replies.Truth a.starts
reply_of a questions.Ends = replies.Truth a.ends
reply_of a questions.Kind = replies.Kind a.kind
reply_of a (questions.Space op) = replies.Truth (a.space op)
reply_of a questions.Pattern = replies.Pattern a.pattern
reply_of a questions.Block = replies.Truth a.block
