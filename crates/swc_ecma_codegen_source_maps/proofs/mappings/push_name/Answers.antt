use Rattle.std.proofs.Common.{◌<◌, [], ◌∷◌, sym, subst}
use Rattle.std.specs.Option.{IfSome}
use Rattle.std.specs.String.{string_bytes}
use Rattle.std.proofs.lemmas.Result.{on_ok_weaker}
use Rattle.swc_ecma_codegen_source_maps.specs.Encodable.{name_fields}
use Rattle.swc_ecma_codegen_source_maps.specs.Pieces.{Grows, SaysFields}
use Rattle.swc_ecma_codegen_source_maps.proofs.Fields.{field_then, no_fields}
use Rattle.swc_ecma_codegen_source_maps.proofs.mappings.push_name.Goals as goal

pub push_field-requires-clause-to : goal.push_field-requires-clause-to
push_field-requires-clause-to c = subst (λ o. IfSome o (λ to. to < 2147483648)) c.in-Some.is c.requires.name

pub returns-in-Some : goal.returns-in-Some
returns-in-Some c =
    let old = string_bytes c.args.text.now in
    let new = string_bytes c.push_field.new.text in
    let small : c.in-Some.name < 2147483648 = subst (λ o. IfSome o (λ to. to < 2147483648)) c.in-Some.is c.requires.name in
    on_ok_weaker c.push_field.result (λ piece. subst (λ name. Grows (SaysFields (c.args.from ∷ []) (name_fields name)) old new) (sym c.in-Some.is)
    (field_then c.args.from c.in-Some.name [] [] old new new c.requires.from small piece (no_fields [] new))) c.push_field.ensures

pub returns-in-None : goal.returns-in-None
returns-in-None c = subst (λ name. Grows (SaysFields (c.args.from ∷ []) (name_fields name)) (string_bytes c.args.text.now) (string_bytes c.args.text.now)) (sym c.in-None.is) (no_fields (c.args.from ∷ []) (string_bytes c.args.text.now))
