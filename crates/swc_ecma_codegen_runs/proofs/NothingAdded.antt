-- Known bytes that stay grow by nothing.
use Rattle.std.proofs.Common.{List, ℕ, [], Option, None, Some, sym, ◌∙◌, append-nil}
use Rattle.std.specs.Io.KnownBytes.{Keeps, Appends}

pub kept_appends : (a b : Option (List ℕ)) → Keeps a b → Appends a b []
kept_appends None b p = tt
kept_appends (Some x) None p = absurd p
kept_appends (Some x) (Some y) p = p ∙ sym (append-nil x)
