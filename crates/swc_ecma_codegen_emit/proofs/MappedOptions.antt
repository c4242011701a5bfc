-- The options of a node: a frame round parts, each of which is the same for whatever its option holds. The laws take the options last, so that each
-- part is shown by the cases of its own option alone.
use Rattle.std.proofs.Common.{◌≡◌, ◌∙◌, ap}
use Rattle.swc_ecma_codegen_tokens.specs.Run.{Plan, Part}

-- what is written of an option that was mapped, and of the option itself
abbrev pub Alike : {A B : Type 0} → (A → B) → (B → Part) → (A → Part) → Type 0
Alike {A = A} f p q = (x : A) (rest : Plan) → p (f x) rest ≡ q x rest

pub by_one : {A B : Type 0} (f : A → B) (p : B → Part) (q : A → Part) (frame : Part → Part) → Alike f p q → (x : A) (rest : Plan) → frame (p (f x)) rest ≡ frame (q x) rest
by_one f p q frame h x rest = ap (λ part. frame part rest) (λ i. λ z. h x z i)

pub by_two : {A B C D : Type 0} (f : A → B) (p : B → Part) (q : A → Part) (g : C → D) (r : D → Part) (s : C → Part) (frame : Part → Part → Part) → Alike f p q → Alike g r s → (x : A) (y : C) (rest : Plan) → frame (p (f x)) (r (g y)) rest ≡ frame (q x) (s y) rest
by_two f p q g r s frame h k x y rest = by_one f p q (λ part. frame part (r (g y))) h x rest ∙ by_one g r s (frame (q x)) k y rest

pub by_three : {A B C D E F : Type 0} (f : A → B) (p : B → Part) (q : A → Part) (g : C → D) (r : D → Part) (s : C → Part) (h : E → F) (u : F → Part) (v : E → Part) (frame : Part → Part → Part → Part) → Alike f p q → Alike g r s → Alike h u v → (x : A) (y : C) (z : E) (rest : Plan) → frame (p (f x)) (r (g y)) (u (h z)) rest ≡ frame (q x) (s y) (v z) rest
by_three f p q g r s h u v frame k l m x y z rest = by_two f p q g r s (λ part other. frame part other (u (h z))) k l x y rest ∙ by_one h u v (frame (q x) (s y)) m z rest

pub by_four : {A B C D E F G H : Type 0} (f : A → B) (p : B → Part) (q : A → Part) (g : C → D) (r : D → Part) (s : C → Part) (h : E → F) (u : F → Part) (v : E → Part) (k : G → H) (w : H → Part) (o : G → Part) (frame : Part → Part → Part → Part → Part) → Alike f p q → Alike g r s → Alike h u v → Alike k w o → (x : A) (y : C) (z : E) (t : G) (rest : Plan) → frame (p (f x)) (r (g y)) (u (h z)) (w (k t)) rest ≡ frame (q x) (s y) (v z) (o t) rest
by_four f p q g r s h u v k w o frame l m n a x y z t rest = by_three f p q g r s h u v (λ part other third. frame part other third (w (k t))) l m n x y z rest ∙ by_one k w o (frame (q x) (s y) (v z)) a t rest
