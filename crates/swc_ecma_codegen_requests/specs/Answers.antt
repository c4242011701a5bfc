-- What is answered to a line.
use Rattle.std.specs.Prelude.{◌≡◌, ◌⊎◌, ℕ, Bool, false, true, List, Option, Some, None}
use Rattle.std.specs.Option.{option_map, unwrap_or, MatchOption}
use Rattle.std.specs.Str.{IsUtf8}
use Rattle.serde_json.specs.Data.{Data}
use Rattle.serde_json.specs.View.{view}
use Rattle.swc_ecma_codegen_common.specs.declared.errors.Error.TheVariants.{OutOfMemory}
use Rattle.swc_ecma_codegen_tree.specs.declared.links.AnyNode.{AnyNode}
use Rattle.swc_ecma_codegen_tree.specs.declared.programs.Program.{Program}
use Rattle.swc_ecma_codegen_grammar.specs.TreePhrases.{is_well_formed}
use Rattle.swc_ecma_codegen_syntax.specs.Derives.{program_verdict}
use Rattle.swc_ecma_codegen_syntax.specs.Verdicts.{holds}
use Rattle.swc_ecma_codegen_fix.specs.Mended.{IsMended}
use Rattle.swc_ecma_codegen_json.specs.declared.flat.FlatTree.{FlatTree}
use Rattle.swc_ecma_codegen_json.specs.declared.trees.Short.{Short}
use Rattle.swc_ecma_codegen_json.specs.declared.trees.Tree.{Tree}
use Rattle.swc_ecma_codegen_tokens.specs.Run.{Part, printed}
use Rattle.swc_ecma_codegen_emit.specs.Answers.{any_answers}
use Rattle.swc_ecma_codegen_emit.specs.Places.{by_itself}
use Rattle.swc_ecma_codegen_emit.specs.Programs.{program}
use Rattle.swc_ecma_codegen_emit.specs.Texts.{GivesCause, IsPrinted}
use Rattle.swc_ecma_codegen_emit.specs.Tree.{any_items}
use Rattle.swc_ecma_codegen_requests.specs.Faults.{Tells}
use Rattle.swc_ecma_codegen_requests.specs.Ids.{IsKnownBy, IsKnownIn}
use Rattle.swc_ecma_codegen_requests.specs.Members.{fault_members, text_members, IsLineOf}
use Rattle.swc_ecma_codegen_requests.specs.Prints.{if_asked, maps_left, start_by}
use Rattle.swc_ecma_codegen_requests.specs.Remarks.{left_by, places_in}
use Rattle.swc_ecma_codegen_requests.specs.Settings.{config_of, layout_of}
use Rattle.swc_ecma_codegen_requests.specs.declared.answers.Preparation.{Preparation}
use Rattle.swc_ecma_codegen_requests.specs.declared.emissions.Manner.{Manner}
use Rattle.swc_ecma_codegen_requests.specs.declared.faults.Fault.{Fault}
use Rattle.swc_ecma_codegen_requests.specs.declared.faults.Fault.TheVariants.{BadJson, BadRequest, BadTree, NotOneProgram, Memory, NotWellFormed, NotADerivation, TooDeep, Refused}
use Rattle.swc_ecma_codegen_requests.specs.declared.requests.Request.{Request}

-- what is written of a program
abbrev pub program_part : Program AnyNode → Part
program_part p = by_itself (program any_answers any_items p)

-- a program may be printed: it is well-formed, unless any is to be
abbrev pub MayPrint : Bool → Program AnyNode → Type 0
MayPrint any p = any ≡ false → is_well_formed p ≡ true

-- what is printed of a program: it gets its parentheses where they are asked for
unfoldable pub Becomes : Bool → Bool → Program AnyNode → Program AnyNode → Type 0
Becomes true any p r = IsMended any p r
Becomes false any p r = p ≡ r

-- the same, of a program that may be printed
abbrev pub IsPrepared : Preparation → Program AnyNode → Program AnyNode → Type 0
IsPrepared preparation p r = MayPrint preparation.any p × Becomes preparation.parenthesize preparation.any p r

-- An answer has the text of a part, the positions where they are asked for, and of the request's comments, where it has some, those that are left.
pub record IsTextLine (id : Option (List ℕ)) (manner : Manner) (part : Part) (answer : List ℕ) : Type 0 where
  pub whole : IsPrinted part (start_by manner)
  pub line :
      IsLineOf id
      (text_members (printed part (start_by manner)).sheet.text
      (if_asked manner.positions (printed part (start_by manner)).sheet.pairs)
      (left_by (option_map places_in manner.comments) (maps_left part (start_by manner))))
      answer

-- an answer tells of a fault
abbrev pub IsFaultLine : Option (List ℕ) → Fault → List ℕ → Type 0
IsFaultLine id fault answer = (told : Data) × Tells fault told × IsLineOf id (fault_members told) answer

-- A program isn't well-formed, or there was no memory to say why.
abbrev pub IsBroken : Program AnyNode → Fault → Type 0
IsBroken p (NotWellFormed fault) = is_well_formed p ≡ false
IsBroken p Memory = Unit {0}
IsBroken p fault = ⊥

-- Why a program isn't printed: it isn't well-formed, and should be; its text is read as another tree, and should not; or there was no
-- memory to ask that.
abbrev pub IsUnprepared : Preparation → Program AnyNode → Fault → Type 0
IsUnprepared preparation p NotADerivation = (preparation.parenthesize ≡ true) × (holds true (program_verdict p) ≡ false)
IsUnprepared preparation p TooDeep = (preparation.parenthesize ≡ true) × (holds true (program_verdict p) ≡ false)
IsUnprepared preparation p Memory = (preparation.any ≡ false) ⊎ (preparation.parenthesize ≡ true)
IsUnprepared preparation p fault = (preparation.any ≡ false) × IsBroken p fault

-- Why a program has no text: it isn't printed; or its emission was refused for this cause, or there was no memory for it.
abbrev pub IsWhy : Preparation → Manner → Program AnyNode → Fault → Type 0
IsWhy preparation manner p (Refused error) =
    (r : Program AnyNode) × IsPrepared preparation p r × ((error ≡ OutOfMemory) ⊎ GivesCause (program_part r) (start_by manner) error)
IsWhy preparation manner p fault = IsUnprepared preparation p fault

-- the answer to a request for the text of a program
pub data AnswersProgram (id : Option (List ℕ)) (preparation : Preparation) (manner : Manner) (p : Program AnyNode) (answer : List ℕ) : Type 0 where
  a_text : (r : Program AnyNode) → IsPrepared preparation p r → IsTextLine id manner (program_part r) answer → AnswersProgram id preparation manner p answer
  a_fault : (fault : Fault) → IsWhy preparation manner p fault → IsFaultLine id fault answer → AnswersProgram id preparation manner p answer

-- a request, whose program is a tree or has its flat form
abbrev pub Asked : Type 0
Asked = Request (Short (Tree AnyNode)) (Short (FlatTree 8000 AnyNode))

-- how it is to be printed: the source text begins at 1 unless it is said where
abbrev pub manner_of : Asked → Manner
manner_of request = record { config = config_of request.config.0; layout = layout_of request.config.0; source = request.source; first = unwrap_or request.first 1; comments = option_map (λ c. c.0) request.comments; positions = request.positions }

-- what is done with its program before
abbrev pub preparation_of : Asked → Preparation
preparation_of request = record { any = request.any; parenthesize = request.parenthesize }

-- its program, where it has one
abbrev pub program_in : Option (Short (Tree AnyNode)) → Option (Short (FlatTree 8000 AnyNode)) → Option (Program AnyNode)
program_in (Some tree) None = Some tree.0.0
program_in None (Some flat) = Some flat.0.0
program_in tree flat = None

-- the answer to a request, which is known by this text
abbrev pub AnswersRequest : Option (List ℕ) → Asked → List ℕ → Type 0
AnswersRequest id request answer =
    MatchOption (program_in request.tree request.flat)
    (IsFaultLine id NotOneProgram answer)
    (λ p. AnswersProgram id (preparation_of request) (manner_of request) p answer)

-- no request was read
abbrev pub IsUnread : Fault → Type 0
IsUnread (BadJson error) = Unit {0}
IsUnread (BadRequest error) = Unit {0}
IsUnread (BadTree error) = Unit {0}
IsUnread Memory = Unit {0}
IsUnread fault = ⊥

-- what a request asks for, which is read of a line, and known by the text of its id there
abbrev pub AnswersLine : List ℕ → Asked → List ℕ → Type 0
AnswersLine line request answer = (id : Option (List ℕ)) × IsKnownBy line (option_map view request.id.0) id × AnswersRequest id request answer

-- What is answered to a line: what some request asks for that is read of it, as serde reads JSON; or that none is.
pub data IsAnswer (line answer : List ℕ) : Type 0 where
  to_request : IsUtf8 line → (request : Asked) → AnswersLine line request answer → IsAnswer line answer
  to_no_request : (id : Option (List ℕ)) (fault : Fault) → IsKnownIn line id → IsUnread fault → IsFaultLine id fault answer → IsAnswer line answer
