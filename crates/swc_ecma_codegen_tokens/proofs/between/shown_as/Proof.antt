-- `shown_as` passes a snapshot on, which shows another token. Assumes `Logic`.
use Rattle.std.proofs.Common.{◌≡◌, List, [], ◌∷◌, ◌++◌, refl, sym, ◌∙◌, ap, subst}
use seplogic.Ra.Ura.{Ura}
use mir.Syntax.{Fn}
use mir.Val.{Val, vstruct, vcons, vnil, of_list}
use base.Logic.{SProp, ent, via, fst∗, snd∗}
use prog.Memory.{Memory}
use prog.Routine.{Routine}
use prog.Wp.{Calls, Loops, WpFn, Tables}
use contract.Monad.{Fun, fact_use}
use contract.Running.{tables, tables_of}
use sound.WpLaws.{WpFn-mono}
use types.Logic.{Logic, sem}
use types.Kit.{‵, raw, ◌⊛◌, ◌$◌, ◌∵◌, !, qed, move, keep, split, fsplit, fjoin, suffices, done}
use types.Run.{of_opd, enter, returns}
use types.ByLocal.{alloc_all, pass_all, free_all, look_at, get, sets}
use denote.Exit.{yes}
use denote.RattleType.{RattleType, owns}
use denote.Laws.{Is, Are, Ises, owns_show, showss}
use denote.Signature.{plain, types_at}
use denote.Steps.{nothing}
use denote.Struct.Struct.{Struct}
use denote.Triple.Clauses.{Clauses, Ended, closing}
use denote.Triple.Entry.{on_entry, alive}
use denote.Triple.Spec.{Meets, triple_of}
use denote.Triple.Table.{entered}
use denote.Triple.Walked.{says, Stays, stay_dropped, walk_of, ends_at, walk_Meets, Goes-dropped}
use Rattle.std.specs.contracts.marker.PhantomData as marker
use Rattle.std.specs.contracts.snapshot.Snapshot as snapshot
use Rattle.swc_ecma_codegen_tokens.specs.contracts.previous.PreviousToken as token
use Rattle.swc_ecma_codegen_tokens.specs.contracts.between.shown_as as F
use Rattle.swc_ecma_codegen_tokens.specs.contracts.between.shown_as.Key.{name as #self}
use Rattle.swc_ecma_codegen_tokens.proofs.between.shown_as.Statement as stated
use Rattle.swc_ecma_codegen_tokens.proofs.between.shown_as.Code as code

abbrev function : Fn
function = code.function

abbrev ended : Ended
ended = F.ended

abbrev A : RattleType
A = snapshot.the_row token.the_row

abbrev stayed : Stays ended.signature.params ended.kept
stayed = (stay_dropped (plain (λ _. A)) yes, tt)

-- the one machine value of a snapshot
abbrev none : Val
none = vstruct (vcons (vstruct vnil) vnil)

abbrev Mark : RattleType
Mark = Struct (record { name = (snapshot.the_type token.the_row).name; args = []; types = token.the_row ∷ []; fields = (marker.the_field token.the_row).row ∷ [] })

told : (vs : List Val) → Is Mark (tt, tt) vs → vs ≡ none ∷ []
told vs is = is.1.0 ∙ ap (λ (ws : List Val). vstruct (of_list (ws ++ [])) ∷ []) is.1.1.0.1.0

module _ {M : Type 1} {𝓤 : Ura M} (𝓛 : Logic 𝓤) (at_mem : Memory → SProp 𝓤) (run : Routine → Fun 𝓤) where
  open 𝓛 use {H}

  abbrev held : Clauses 𝓤 ended
  held = F.clauses 𝓛 at_mem run

  module _ (C : Calls 𝓤 H) (Λ : Loops 𝓤 H) (z : (walk_of 𝓛 ended stayed held).Ghost) where
    abbrev Vss : Type 0
    Vss = List Val × Unit {0}

    abbrev At : Vss → (walk_of 𝓛 ended stayed held).Ghost
    At vss = ((z.0.0, z.0.1, z.0.2, z.0.3, vss), z.1)

    abbrev Goes : Vss → Type 1
    Goes vss = ent 𝓤 ((walk_of 𝓛 ended stayed held).pre (At vss)) (WpFn 𝓤 H C Λ function ((walk_of 𝓛 ended stayed held).args (At vss)) ((walk_of 𝓛 ended stayed held).post (At vss)))

    abbrev passed : Vss
    passed = (none ∷ [], tt)

    abbrev toks : SProp 𝓤
    toks = alive 𝓛 ended.signature z.0.0 z.0.1

    walks : Goes passed
    walks =
        let new : A.Denot = record { marker = record {}; value = z.1 } in
        qed 𝓛 ((raw toks ⊛ ‵ (owns (types_at ended.signature.params z.0.0) z.0.3 passed)) ∷ raw ((held z.0.0 z.0.3).requires z.1) ∷ []) ∵
        keep ! (0 ∷ []) $ split ! $ move ! (1 ∷ []) $ fsplit ! $ keep ! (0 ∷ 2 ∷ []) $
        enter ! C Λ function (none ∷ []) _ $ alloc_all ! (λ l. pass_all ! refl ((tt, (tt, tt)), tt) $
        sets ! (of_opd ! (get ! refl)) refl (tt, (tt, tt)) $
        returns ! (look_at ! 0 refl) $ free_all ! refl $
        suffices ! _ (ends_at 𝓛 ended stayed held (At passed) none new (tt, tt) (tt, tt)) $ says ! refl $
        nothing ! $ nothing ! $ fjoin ! $ move ! (2 ∷ 0 ∷ 1 ∷ []) $ done !)

  meets : (𝓣 : Tables 𝓤 H) → Meets 𝓛 ended.signature (WpFn 𝓤 H 𝓣.C 𝓣.Λ function) (closing 𝓛 ended held)
  meets 𝓣 =
      walk_Meets 𝓛 ended stayed (Goes-dropped 𝓛 0 (plain (λ _. A)) yes (λ κs x f. refl), tt) held
      (WpFn 𝓤 H 𝓣.C 𝓣.Λ function) (WpFn-mono 𝓤 H 𝓛.laws 𝓣 function)
      (λ z. let a = z.0.3 in let vss = z.0.4 in let Rs : List RattleType = types_at ended.signature.params z.0.0 in let On : SProp 𝓤 = on_entry 𝓛 ended.signature z.0.0 z.0.1 a vss in
      fact_use 𝓤 (Are Rs (Ises Rs) a vss) (via 𝓤 (sem 𝓛 (owns Rs a vss)) (via 𝓤 On (fst∗ 𝓤 On ((held z.0.0 a).requires z.1)) (snd∗ 𝓤 (alive 𝓛 ended.signature z.0.0 z.0.1) (sem 𝓛 (owns Rs a vss)))) (owns_show 𝓛 Rs (Ises Rs) (showss 𝓛 Rs) a vss)) (λ are.
      subst (Goes 𝓣.C 𝓣.Λ z) (λ i. (sym (told vss.0 are.0.0) i, tt)) (walks 𝓣.C 𝓣.Λ z)))

pub shown_as_spec : {M : Type 1} → stated.statement M
unfolding tables_of
shown_as_spec 𝓤 𝓛 𝓜 𝓡 wired =
    let 𝓣 : Tables 𝓤 𝓛.H = tables_of 𝓤 𝓛.H 𝓜 (tables 𝓤 𝓛.H 𝓜 𝓡 𝓡.env) in
    entered 𝓤 𝓛.H (triple_of 𝓛 ended.signature (closing 𝓛 ended (held 𝓛 𝓜.mem 𝓡.returns))) 𝓣.C 𝓣.Λ #self function
    (code.unfolded 𝓤 𝓛.H 𝓜 𝓡 wired) (meets 𝓛 𝓜.mem 𝓡.returns 𝓣)
