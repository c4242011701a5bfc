-- What is told of a request that has no text.
use Rattle.std.specs.Prelude.{◌≡◌, ℕ, List, map, codes, string_bytes}
use Rattle.serde_json.specs.Data.{Data, array, object, string, number, unsigned, member, no_members}
use Rattle.serde_json.specs.View.{items_of}
use Rattle.swc_ecma_codegen_common.specs.Refusals.{reason_of}
use Rattle.swc_ecma_codegen_common.specs.declared.errors.Refusal.{Refusal}
use Rattle.swc_ecma_codegen_common.specs.declared.errors.Refusal.TheVariants as refusals
use Rattle.swc_ecma_codegen_validate.specs.declared.faults.Fault.{Fault as TreeFault}
use Rattle.swc_ecma_codegen_validate.specs.declared.faults.Step.{Step}
use Rattle.swc_ecma_codegen_validate.specs.declared.faults.Step.TheVariants.{Field, Element}
use Rattle.swc_ecma_codegen_requests.specs.declared.faults.Fault.{Fault}
use Rattle.swc_ecma_codegen_requests.specs.declared.faults.Unread.{Unread}
use Rattle.swc_ecma_codegen_requests.specs.declared.places.Key.{Key}
use Rattle.swc_ecma_codegen_requests.specs.declared.places.Key.TheVariants.{Name, Index}
use Rattle.swc_ecma_codegen_requests.specs.declared.faults.Fault.TheVariants.{BadJson, BadRequest, BadTree, NotOneProgram, Memory, NotWellFormed, NotADerivation, TooDeep, Refused}

-- a text is made in memory, so a fault of its writer is want of memory
abbrev pub cause_of : Refusal → List ℕ
cause_of refusals.Writer = codes "memory"
cause_of refusals.OutOfMemory = codes "memory"
cause_of refusals.UnsupportedNode = codes "unsupported node"
cause_of refusals.BadShape = codes "bad shape"
cause_of refusals.NameOutOfTarget = codes "name out of target"
cause_of refusals.PositionTooLarge = codes "position too large"
cause_of refusals.Failed = codes "failed"

-- `{"cause":"bad shape","kind":"refused"}`
abbrev pub refused_data : List ℕ → Data
refused_data cause = object (member (codes "cause") (string cause) (member (codes "kind") (string (codes "refused")) no_members))

-- a step to a part of a request: `"config"`, or 3
abbrev pub key_data : Key → Data
key_data (Name name) = string (string_bytes name)
key_data (Index index) = number (unsigned index)

abbrev pub keys_data : List Key → Data
keys_data path = array (items_of (map key_data path))

-- `{"column":2,"kind":"bad request","line":1,"message":"unknown member `minfy`","path":["config","minfy"]}`
abbrev pub unread_data : List ℕ → Unread → Data
unread_data kind unread =
    object
    (member (codes "column") (number (unsigned unread.column)) (member (codes "kind") (string kind) (member (codes "line") (number (unsigned unread.line)) (member (codes "message") (string (string_bytes unread.message)) (member (codes "path") (keys_data unread.path.items) no_members)))))

-- a step to a node: `"body"`, or 3
abbrev pub step_data : Step → Data
step_data (Field name) = string name.now
step_data (Element index) = number (unsigned index)

abbrev pub path_data : List Step → Data
path_data path = array (items_of (map step_data path))

-- `{"kind":"not well-formed","path":["body",3,"expr"],"rule":"a name holds a character that no name may"}`
abbrev pub tree_fault_data : TreeFault → Data
tree_fault_data fault =
    object (member (codes "kind") (string (codes "not well-formed")) (member (codes "path") (path_data fault.path.items) (member (codes "rule") (string fault.rule.now) no_members)))

-- what an answer tells of a fault
abbrev pub Tells : Fault → Data → Type 0
Tells (BadJson unread) told = told ≡ unread_data (codes "bad JSON") unread
Tells (BadRequest unread) told = told ≡ unread_data (codes "bad request") unread
Tells (BadTree unread) told = told ≡ unread_data (codes "bad tree") unread
Tells NotOneProgram told = told ≡ object (member (codes "kind") (string (codes "bad request")) (member (codes "message") (string (codes "one of `tree` and `flat` is wanted")) no_members))
Tells Memory told = told ≡ refused_data (codes "memory")
Tells (NotWellFormed fault) told = told ≡ tree_fault_data fault
Tells NotADerivation told = told ≡ object (member (codes "kind") (string (codes "not a derivation")) no_members)
Tells TooDeep told = told ≡ object (member (codes "kind") (string (codes "too deep")) no_members)
Tells (Refused error) told = told ≡ refused_data (cause_of (reason_of error))
