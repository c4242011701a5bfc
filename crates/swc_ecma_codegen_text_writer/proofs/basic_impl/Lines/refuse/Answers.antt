use Rattle.std.proofs.Common.{List, ℕ, ap, sym, subst}
use Rattle.std.specs.Str.{is_utf8}
use Rattle.swc_ecma_codegen_text_writer.specs.Places.{origin, after_text}
use Rattle.swc_ecma_codegen_text_writer.specs.Columns.{Stands}
use Rattle.swc_ecma_codegen_text_writer.specs.Reach.{Shows}
use Rattle.swc_ecma_codegen_text_writer.specs.View.{sheet_of}
use Rattle.swc_ecma_codegen_text_writer.proofs.Steps.{outlet_same}
use Rattle.swc_ecma_codegen_text_writer.proofs.basic_impl.Lines.refuse.Goals as goal

pub returns-clause-same : goal.returns-clause-same
unfolding sheet_of
returns-clause-same g c =
    outlet_same (sheet_of c.args.self.now) _ _ _ _ c.take_fault.ensures.bytes (ap is_utf8 c.take_fault.ensures.bytes) (ap (λ (t : List ℕ). after_text t origin) c.take_fault.ensures.logged) c.take_fault.ensures.faults

pub invariant_of-self-clause-shown : goal.invariant_of-self-clause-shown
invariant_of-self-clause-shown g c = λ f. subst (λ z. Stands c.args.self.now.column.units z) (sym (ap (λ (t : List ℕ). after_text t origin) c.take_fault.ensures.logged)) (c.args.self.now.shown f)

pub invariant_of-self-clause-counted : goal.invariant_of-self-clause-counted
invariant_of-self-clause-counted g c = λ f e. subst (λ z. Shows (g.K.KeepsPositions.reached c.args.self.now.kept) z) (sym (ap (λ (t : List ℕ). after_text t origin) c.take_fault.ensures.logged)) (c.args.self.now.counted f e)
