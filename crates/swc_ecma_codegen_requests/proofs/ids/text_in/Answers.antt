use Rattle.std.proofs.Common.{◌≡◌, Some, string_bytes, subst, sym, rules}
use Rattle.serde_json.specs.Data.{Data}
use Rattle.serde_json.specs.Read.{read}
use Rattle.serde_json.specs.View.{view}
use Rattle.swc_ecma_codegen_requests.specs.Ids.{StandsIn}
use Rattle.swc_ecma_codegen_requests.proofs.ids.text_in.Goals as goal

-- its text is the part that was found
pub returns-in_ok-from_str-in-Some : goal.returns-in_ok-from_str-in-Some
returns-in_ok-from_str-in-Some c =
    let line = c.args.line.now in
    let part = c.in-Some.found.text.now in
    let id = view c.in-Some.found.value in
    let stands : StandsIn line part = (search rules, search rules) in
    let reads : read part ≡ Some id = search rules in
    let same : string_bytes c.in_ok-from_str-in-Some.field-0 ≡ part = search rules in
    subst (λ text. StandsIn line text × ((value : Data) × (read text ≡ Some value))) (sym same) (stands, (id, reads))
