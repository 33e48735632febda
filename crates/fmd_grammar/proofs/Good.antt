-- What a parser is good for: what it passes is of a form G, and what comes before its fault can be continued, W; by the tokens up to there alone.
use Rattle.std.specs.Prelude.{None}
use mathlib.Core.Path.{◌≡◌, refl, sym, ap, subst, ◌∙◌}
use mathlib.Core.Bool.{Bool, true, false, cond}
use mathlib.Core.Logic.{inl, inr}
use mathlib.Core.List.{List, [], ◌∷◌, ◌++◌, append_assoc}
use Prim.Native.Nat.{ℕ}
use lib.Dec.{eqb}
use lib.ListN.{get_or}
use borrow.Author.Tests.{eqb-true}
use Rattle.text_words.specs.Classes.{is_digit}
use Rattle.fmd_lex.specs.Numbers.{number_in}
use Rattle.fmd_lex.specs.Names.{good_name}
use Rattle.fmd_grammar.specs.Grammar.{Lexeme, word, sign}
use Rattle.fmd_grammar.specs.Claims.{Fault, unfit_sign, word_before_braces, word_after_braces, bad_number, bad_image_size, bad_length, bad_size}
use Rattle.fmd_grammar.specs.Claims.{bad_name, too_many, bad_flag, lexeme_place}
use Rattle.fmd_grammar.proofs.Parsers.{Got, no, ok, Parser, Act, stop, eat, leave, acted, item, ret, after, bind, is_it}

-- ---- equal answers

module _ {A : Type 0} where
  abbrev pub Same : Got A → Got A → Type 0
  Same (no n p) (no m q) = (n ≡ m) × (p ≡ q)
  Same (no n p) (ok b vs) = ⊥
  Same (ok a us) (no m q) = ⊥
  Same (ok a us) (ok b vs) = (a ≡ b) × (us ≡ vs)

  same_refl : (x : Got A) → Same x x
  same_refl (no n p) = (refl, refl)
  same_refl (ok a us) = (refl, refl)

  pub same : {x y : Got A} → x ≡ y → Same x y
  same {x} {y} e = subst (Same x) e (same_refl x)

abbrev Heads : List Lexeme → List Lexeme → Type 0
Heads [] ys = Unit {0}
Heads (x ∷ xs) [] = Unit {0}
Heads (x ∷ xs) (y ∷ ys) = x ≡ y

heads-refl : (xs : List Lexeme) → Heads xs xs
heads-refl [] = tt
heads-refl (x ∷ xs) = refl

heads : (xs ys : List Lexeme) → xs ≡ ys → Heads xs ys
heads xs ys e = subst (Heads xs) e (heads-refl xs)

-- ---- faults where more may stand

fault-map : {U W : List Lexeme → Type 0} {n : ℕ} {x : Lexeme} → ((us : List Lexeme) → U us → W us) → Fault U n x → Fault W n x
fault-map g unfit_sign = unfit_sign
fault-map g (word_before_braces m) = word_before_braces (g _ m)
fault-map g (word_after_braces m) = word_after_braces (g _ m)
fault-map g (bad_number e m) = bad_number e (g _ m)
fault-map g (bad_image_size e m) = bad_image_size e (g _ m)
fault-map g (bad_length e i m) = bad_length e i (g _ m)
fault-map g (bad_size d e m) = bad_size d e (g _ m)
fault-map g (bad_name e m) = bad_name e (λ v h. g _ (m v h))
fault-map g (too_many e m) = too_many e (λ v h. g _ (m v h))
fault-map g (bad_flag (inl m)) = bad_flag (inl (g _ m))
fault-map g (bad_flag (inr m)) = bad_flag (inr (g _ m))

-- ---- words that are treated alike

abbrev pub digital : List ℕ → Bool
digital w = is_digit (get_or w 0 0)

-- the word v has this fault wherever a word does that begins with a digit as v does
pub data Exchange : ℕ → List ℕ → Type 0 where
  no_number : {v : List ℕ} → number_in v ≡ None → Exchange 52 v
  no_name : {v : List ℕ} → good_name v ≡ false → Exchange 53 v

module _ {A : Type 0} where
  -- the acts on two such words
  abbrev pub Follow : Act A → List ℕ → Act A → Type 0
  Follow (stop n) v y = Exchange n v → y ≡ stop n
  Follow (eat a) v y = Unit {0}
  Follow (leave a) v y = y ≡ leave a

  abbrev pub Steady : (Lexeme → Act A) → Type 0
  Steady f = (p : ℕ) (w v : List ℕ) → digital w ≡ digital v → Follow (f (word p w)) v (f (word p v))

-- ---- good parsers

module _ {A : Type 0} where
  -- the answer on ts is a fault; each r, with more fuel, answers the same on all that begins so
  pub record Stopped (W : List Lexeme → Type 0) (r : ℕ → Parser A) (ts : List Lexeme) (n p : ℕ) : Type 0 where
    pub own : List Lexeme
    pub it : Lexeme
    pub rest : List Lexeme
    pub list : ts ≡ own ++ (it ∷ rest)
    pub place : lexeme_place it ≡ p
    pub viable : W own
    pub fault : Fault (λ us. W (own ++ us)) n it
    pub again : (k : ℕ) (xs : List Lexeme) → r k (own ++ (it ∷ xs)) ≡ no n p
    pub swap : (w v : List ℕ) → it ≡ word p w → digital w ≡ digital v → Exchange n v → (k : ℕ) (xs : List Lexeme) → r k (own ++ (word p v ∷ xs)) ≡ no n p

  pub record Passed (G : List Lexeme → A → Type 0) (r : ℕ → Parser A) (ts : List Lexeme) (a : A) (us : List Lexeme) : Type 0 where
    pub own : List Lexeme
    pub list : ts ≡ own ++ us
    pub says : G own a
    pub again : (k : ℕ) (x : Lexeme) (rest xs : List Lexeme) → us ≡ x ∷ rest → r k (own ++ (x ∷ xs)) ≡ ok a (x ∷ xs)
    pub swap : (k p : ℕ) (w v : List ℕ) (rest xs : List Lexeme) → us ≡ word p w ∷ rest → digital w ≡ digital v
        → r k (own ++ (word p v ∷ xs)) ≡ ok a (word p v ∷ xs)

  pub record Good (G : List Lexeme → A → Type 0) (W : List Lexeme → Type 0) (q : Parser A) (r : ℕ → Parser A) : Type 0 where
    pub stops : (ts : List Lexeme) (n p : ℕ) → q ts ≡ no n p → (n ≡ 0 → ⊥) → Stopped W r ts n p
    pub passes : (ts : List Lexeme) (a : A) (us : List Lexeme) → q ts ≡ ok a us → Passed G r ts a us

  pub map-good : {G H : List Lexeme → A → Type 0} {U W : List Lexeme → Type 0} (q : Parser A) (r : ℕ → Parser A) →
      ((ts : List Lexeme) (a : A) → G ts a → H ts a)
      → ((ts : List Lexeme) → U ts → W ts) → Good G U q r → Good H W q r
  map-good q r f g h =
      record {
        stops = λ ts n p e z.
            let s = h.stops ts n p e z in
            record {
              own = s.own;
              it = s.it;
              rest = s.rest;
              list = s.list;
              place = s.place;
              viable = g _ s.viable;
              fault = fault-map (λ us. g _) s.fault;
              again = s.again;
              swap = s.swap;
            };
        passes = λ ts a us e. let s = h.passes ts a us e in record { own = s.own; list = s.list; says = f _ _ s.says; again = s.again; swap = s.swap };
      }

  pub ret-good : {G : List Lexeme → A → Type 0} {W : List Lexeme → Type 0} (a : A) → G [] a → Good G W (ret a) (λ k. ret a)
  ret-good {G} {W} a g =
      record {
        stops = λ ts n p e z. absurd (same e);
        passes = λ ts b us e.
            let s = same e in
            record {
              own = [];
              list = s.1;
              says = subst (G []) s.0 g;
              again = λ e x rest xs k. ap (λ (c : A). ok c (x ∷ xs)) s.0;
              swap = λ e q w v rest xs k d. ap (λ (c : A). ok c (word q v ∷ xs)) s.0;
            };
      }

  -- no answer for want of fuel
  pub none-good : {G : List Lexeme → A → Type 0} {W : List Lexeme → Type 0} (r : ℕ → Parser A) → Good G W (λ ts. no 0 0) r
  none-good r = record { stops = λ ts n p e z. absurd (z (sym (same e).0)); passes = λ ts a us e. absurd (same e) }

  abbrev pub Fine : (List Lexeme → A → Type 0) → (List Lexeme → Type 0) → Lexeme → Act A → Type 0
  Fine G W x (stop n) = Fault W n x × W []
  Fine G W x (eat a) = G (x ∷ []) a
  Fine G W x (leave a) = G [] a

  pub item-good : {G : List Lexeme → A → Type 0} {W : List Lexeme → Type 0} (f : Lexeme → Act A) → Steady f → ((x : Lexeme) → Fine G W x (f x))
      → Good G W (item f) (λ k. item f)
  item-good {G} {W} f st h = record { stops = stops; passes = passes }
    where
      stopped : (x : Lexeme) (xs : List Lexeme) (n p : ℕ) (a : Act A) → f x ≡ a → Fine G W x a → acted a x xs ≡ no n p → Stopped W (λ k. item f) (x ∷ xs) n p
      stopped x xs n p (stop m) q w e =
          let s = same e in
          record {
            own = [];
            it = x;
            rest = xs;
            list = refl;
            place = s.1;
            viable = w.1;
            fault = subst (λ (j : ℕ). Fault W j x) s.0 w.0;
            again = λ i ys. ap (λ (b : Act A). acted b x ys) q ∙ e;
            swap = λ u v z d c i ys.
                ap (λ (b : Act A). acted b (word p v) ys)
                (subst (λ (b : Act A). Follow b v (f (word p v))) (ap f (sym z) ∙ q) (st p u v d) (subst (λ (j : ℕ). Exchange j v) (sym s.0) c))
                ∙ ap (λ (j : ℕ). no j p) s.0;
          }
      stopped x xs n p (eat b) q w e = absurd (same e)
      stopped x xs n p (leave b) q w e = absurd (same e)

      stops : (ts : List Lexeme) (n p : ℕ) → item f ts ≡ no n p → (n ≡ 0 → ⊥) → Stopped W (λ k. item f) ts n p
      stops [] n p e z = absurd (z (sym (same e).0))
      stops (x ∷ xs) n p e z = stopped x xs n p (f x) refl (h x) e

      passed : (x : Lexeme) (xs : List Lexeme) (a : A) (us : List Lexeme) (b : Act A) → f x ≡ b → Fine G W x b → acted b x xs ≡ ok a us → Passed G
          (λ k. item f) (x ∷ xs) a us
      passed x xs a us (stop m) q w e = absurd (same e)
      passed x xs a us (eat b) q w e =
          let s = same e in
          record {
            own = x ∷ [];
            list = ap (λ (r : List Lexeme). x ∷ r) s.1;
            says = subst (G (x ∷ [])) s.0 w;
            again = λ i y rest ys k. ap (λ (c : Act A). acted c x (y ∷ ys)) q ∙ ap (λ (c : A). ok c (y ∷ ys)) s.0;
            swap = λ i p u v rest ys k d. ap (λ (c : Act A). acted c x (word p v ∷ ys)) q ∙ ap (λ (c : A). ok c (word p v ∷ ys)) s.0;
          }
      passed x xs a us (leave b) q w e =
          let s = same e in
          record {
            own = [];
            list = s.1;
            says = subst (G []) s.0 w;
            again = λ i y rest ys k.
                ap (λ (c : Act A). acted c y ys) (ap f (sym (heads (x ∷ xs) (y ∷ rest) (s.1 ∙ k))) ∙ q) ∙ ap (λ (c : A). ok c (y ∷ ys)) s.0;
            swap = λ i p u v rest ys k d.
                ap (λ (c : Act A). acted c (word p v) ys)
                (subst (λ (c : Act A). Follow c v (f (word p v))) (ap f (sym (heads (x ∷ xs) (word p u ∷ rest) (s.1 ∙ k))) ∙ q) (st p u v d))
                ∙ ap (λ (c : A). ok c (word p v ∷ ys)) s.0;
          }

      passes : (ts : List Lexeme) (a : A) (us : List Lexeme) → item f ts ≡ ok a us → Passed G (λ k. item f) ts a us
      passes [] a us e = absurd (same e)
      passes (x ∷ xs) a us e = passed x xs a us (f x) refl (h x) e

module _ {A B : Type 0} {F : List Lexeme → A → Type 0} {G : List Lexeme → B → Type 0} {W : List Lexeme → Type 0} (q : Parser A) (r : ℕ → Parser A)
    (k : A → Parser B) (j : ℕ → A → Parser B) where
  pub bind-good : Good F W q r → ((own : List Lexeme) (a : A) → F own a → Good (λ (us : List Lexeme) (b : B). G (own ++ us) b)
      (λ (us : List Lexeme). W (own ++ us)) (k a) (λ e. j e a))
      → Good G W (bind q k) (λ e. bind (r e) (j e))
  bind-good g h = record { stops = stops; passes = passes }
    where
      bridge : {ts us : List Lexeme} {a : A} (t : Passed F r ts a us) (o : List Lexeme) (x : Lexeme) (rest : List Lexeme) → us ≡ o ++ (x ∷ rest) → (i : ℕ)
          (xs : List Lexeme)
          → r i (t.own ++ (o ++ (x ∷ xs))) ≡ ok a (o ++ (x ∷ xs))
      bridge t [] x rest e i xs = t.again i x rest xs e
      bridge t (y ∷ o) x rest e i xs = t.again i y (o ++ (x ∷ rest)) (o ++ (x ∷ xs)) e

      bridge-swap : {ts us : List Lexeme} {a : A} (t : Passed F r ts a us) (o : List Lexeme) (p : ℕ) (w v : List ℕ) (rest : List Lexeme)
          → us ≡ o ++ (word p w ∷ rest) → digital w ≡ digital v → (i : ℕ) (xs : List Lexeme) → r i (t.own ++ (o ++ (word p v ∷ xs))) ≡ ok a
          (o ++ (word p v ∷ xs))
      bridge-swap t [] p w v rest e d i xs = t.swap i p w v rest xs e d
      bridge-swap t (y ∷ o) p w v rest e d i xs = t.again i y (o ++ (word p w ∷ rest)) (o ++ (word p v ∷ xs)) e

      stopped : (ts : List Lexeme) (n p : ℕ) (c : Got A) → q ts ≡ c → after c k ≡ no n p → (n ≡ 0 → ⊥) → Stopped W (λ e. bind (r e) (j e)) ts n p
      stopped ts n p (no m i) f e z =
          let d = same e in
          let s = g.stops ts n p (f ∙ (λ x. no (d.0 x) (d.1 x))) z in
          record {
            own = s.own;
            it = s.it;
            rest = s.rest;
            list = s.list;
            place = s.place;
            viable = s.viable;
            fault = s.fault;
            again = λ i xs. ap (λ (c : Got A). after c (j i)) (s.again i xs);
            swap = λ w v z d c i xs. ap (λ (c : Got A). after c (j i)) (s.swap w v z d c i xs);
          }
      stopped ts n p (ok a us) f e z =
          let t = g.passes ts a us f in
          let s = (h t.own a t.says).stops us n p e z in
          record {
            own = t.own ++ s.own;
            it = s.it;
            rest = s.rest;
            list = t.list ∙ ap (λ (x : List Lexeme). t.own ++ x) s.list ∙ sym (append_assoc t.own s.own (s.it ∷ s.rest));
            place = s.place;
            viable = s.viable;
            fault = fault-map (λ us. subst W (sym (append_assoc t.own s.own us))) s.fault;
            again = λ i xs.
                ap (bind (r i) (j i)) (append_assoc t.own s.own (s.it ∷ xs))
                ∙ ap (λ (c : Got A). after c (j i)) (bridge t s.own s.it s.rest s.list i xs)
                ∙ s.again i xs;
            swap = λ w v z d c i xs.
                ap (bind (r i) (j i)) (append_assoc t.own s.own (word p v ∷ xs))
                ∙ ap (λ (c : Got A). after c (j i))
                (bridge-swap t s.own p w v s.rest (s.list ∙ ap (λ (x : Lexeme). s.own ++ (x ∷ s.rest)) z) d i xs)
                ∙ s.swap w v z d c i xs;
          }

      stops : (ts : List Lexeme) (n p : ℕ) → bind q k ts ≡ no n p → (n ≡ 0 → ⊥) → Stopped W (λ e. bind (r e) (j e)) ts n p
      stops ts n p e z = stopped ts n p (q ts) refl e z

      passed : (ts : List Lexeme) (b : B) (vs : List Lexeme) (c : Got A) → q ts ≡ c → after c k ≡ ok b vs → Passed G (λ e. bind (r e) (j e)) ts b vs
      passed ts b vs (no m i) f e = absurd (same e)
      passed ts b vs (ok a us) f e =
          let t = g.passes ts a us f in
          let s = (h t.own a t.says).passes us b vs e in
          record {
            own = t.own ++ s.own;
            list = t.list ∙ ap (λ (x : List Lexeme). t.own ++ x) s.list ∙ sym (append_assoc t.own s.own vs);
            says = s.says;
            again = λ d x rest xs i.
                ap (bind (r d) (j d)) (append_assoc t.own s.own (x ∷ xs))
                ∙ ap (λ (c : Got A). after c (j d)) (bridge t s.own x rest (s.list ∙ ap (λ (y : List Lexeme). s.own ++ y) i) d xs)
                ∙ s.again d x rest xs i;
            swap = λ i p w v rest xs e d.
                ap (bind (r i) (j i)) (append_assoc t.own s.own (word p v ∷ xs))
                ∙ ap (λ (c : Got A). after c (j i)) (bridge-swap t s.own p w v rest (s.list ∙ ap (λ (y : List Lexeme). s.own ++ y) e) d i xs)
                ∙ s.swap i p w v rest xs e d;
          }

      passes : (ts : List Lexeme) (b : B) (vs : List Lexeme) → bind q k ts ≡ ok b vs → Passed G (λ e. bind (r e) (j e)) ts b vs
      passes ts b vs e = passed ts b vs (q ts) refl e

-- ---- a sign that may stand there

abbrev IsIt : ℕ → List Lexeme → Bool → Type 0
IsIt k own true = (p : ℕ) × (own ≡ sign p k ∷ [])
IsIt k own false = own ≡ []

is-fine : (W : List Lexeme → Type 0) (k : ℕ) (x : Lexeme) → Fine (IsIt k) W x (is_it k x)
is-fine W k (word p w) = refl
is-fine W k (sign p j) = go (eqb j k) refl
  where
    go : (b : Bool) → eqb j k ≡ b → Fine (IsIt k) W (sign p j) (cond b (eat true) (leave false))
    go true e = (p, ap (λ (i : ℕ). sign p i ∷ []) (eqb-true j k e))
    go false e = refl

pub sign-good : {A : Type 0} {G : List Lexeme → A → Type 0} {W : List Lexeme → Type 0} (k : ℕ) (q : Parser A) (r : ℕ → Parser A) (x : Parser A)
    (y : ℕ → Parser A)
    → ((p : ℕ) → Good (λ (us : List Lexeme) (a : A). G (sign p k ∷ us) a) (λ (us : List Lexeme). W (sign p k ∷ us)) q r) → Good G W x y
    → Good G W (bind (item (is_it k)) (λ b. cond b q x)) (λ e. bind (item (is_it k)) (λ b. cond b (r e) (y e)))
sign-good {A} {G} {W} k q r x y g h = bind-good {F = IsIt k} {G = G} {W = W} (item (is_it k)) (λ e. item (is_it k)) (λ b. cond b q x)
    (λ e b. cond b (r e) (y e)) (item-good (is_it k) (λ p w v d. refl) (is-fine W k)) go
  where
    go : (own : List Lexeme) (b : Bool) → IsIt k own b
        → Good (λ (us : List Lexeme) (a : A). G (own ++ us) a) (λ (us : List Lexeme). W (own ++ us)) (cond b q x) (λ e. cond b (r e) (y e))
    go own true w =
        subst (λ (o : List Lexeme). Good (λ (us : List Lexeme) (a : A). G (o ++ us) a) (λ (us : List Lexeme). W (o ++ us)) q r) (sym w.1) (g w.0)
    go own false w = subst (λ (o : List Lexeme). Good (λ (us : List Lexeme) (a : A). G (o ++ us) a) (λ (us : List Lexeme). W (o ++ us)) x y) (sym w) h
