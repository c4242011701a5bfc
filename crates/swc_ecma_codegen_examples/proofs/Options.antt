-- What is written of an option.
use Rattle.std.proofs.Common.{◌≡◌, ◌∙◌, ap, subst, Option, Some, None, Result}
use Rattle.swc_ecma_codegen_common.specs.declared.errors.Refusal.{Refusal}
use Rattle.swc_ecma_codegen_tokens.specs.Run.{Part, State, Follows, nothing, with_max_line}
use Rattle.swc_ecma_codegen_emit.specs.Lists.{if_some_at}
use Rattle.swc_ecma_codegen_emit.specs.Places.{Place, by_itself}

pub some_written : {A : Type 0} (items : A → Place → Part) (o : Option A) (x : A) → o ≡ Some x → by_itself (if_some_at items o) ≡ by_itself (items x)
unfolding if_some_at
some_written items o x h = ap (λ z. by_itself (if_some_at items z)) h ∙ (λ i. by_itself (λ place rest. items x place rest))

pub none_written : {A : Type 0} (items : A → Place → Part) (o : Option A) → o ≡ None → by_itself (if_some_at items o) ≡ (λ rest. rest)
unfolding if_some_at by_itself with_max_line
none_written items o h = ap (λ z. by_itself (if_some_at items z)) h ∙ (λ i. λ rest env. rest env)

-- what is done of one is done of the other
pub follows_part : (p q : Part) (a b : State) (r : Result (Unit {0}) Refusal) → p ≡ q → Follows (p nothing) a b r → Follows (q nothing) a b r
follows_part p q a b r e h = subst (λ z. Follows (z nothing) a b r) e h
