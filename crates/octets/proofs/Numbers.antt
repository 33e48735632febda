-- Laws of little-endian numbers, over the width.
use mathlib.Core.Path.{◌≡◌, refl, sym, ap, ap₂, subst, ◌∙◌}
use mathlib.Core.List.{List, [], ◌∷◌, ◌++◌}
use Prim.Native.Nat.{ℕ, zero, suc, ◌+◌, ◌*◌, ◌/◌, ◌%◌, ◌^◌, ◌<◌}
use native.Mathlib.Nat.{add-zero, suc-add, zero-add, pow-suc, pow-succ', mul_assoc, mul-add, one-mul, mul-zero, div-div-eq-div-mul, div-one}
use native.Mathlib.Nat.{div-lt_iff_lt-mul, suc_inj, suc-ne-zero, zero-lt-suc}
use native.Mathlib.Omega.{arith}
use Prim.Native.Nat.{suc-le-suc}
use lib.Arith.{mod-mul}
use lib.Dec.{lit<}
use lib.ListN.{length, get_or, take, drop}
use lib.Seq.{take-nil, get_or-drop, drop-drop}
use Rattle.octets.specs.Bytes.{le, unle, part, field}

pub length-le : (k x : ℕ) → length (le k x) ≡ k
unfolding le
length-le zero x = refl
length-le (suc k) x = ap suc (length-le k (x / 256))

pub unle-le : (k x : ℕ) → x < 256 ^ k → unle (le k x) ≡ x
unfolding le unle
unle-le zero x h = omega arith
unle-le (suc k) x h =
    let pos : 0 < 256 = omega arith in
    let r : x / 256 < 256 ^ k = (div-lt_iff_lt-mul pos).1 (subst (λ (y : ℕ). x < y) (pow-suc 256 k) h) in
    omega (arith, unle-le k (x / 256) r)

-- ---- a number is its low bytes and its high bytes

unle-nil : (k : ℕ) → unle (take k []) ≡ 0
unfolding unle
unle-nil k = rw take-nil

unle-split : (n m : ℕ) (ys : List ℕ) → unle (take (n + m) ys) ≡ unle (take n ys) + 256 ^ n * unle (take m (drop n ys))
unfolding unle
unle-split zero m ys = rw zero-add (sym (zero-add _ ∙ one-mul _))
unle-split (suc n) m [] = omega (arith, unle-nil (suc n + m), unle-nil m, mul-zero (256 ^ suc n), ap (λ (y : ℕ). 256 ^ suc n * y) (unle-nil m))
unle-split (suc n) m (y ∷ ys) =
    rw (suc-add, pow-succ', mul_assoc)
    (ap (λ (k : ℕ). y + 256 * k) (unle-split n m ys) ∙ omega (arith, mul-add 256 (unle (take n ys)) (256 ^ n * unle (take m (drop n ys)))))

pub field-add : (n m at : ℕ) (xs : List ℕ) → field at (n + m) xs ≡ field at n xs + 256 ^ n * field (at + n) m xs
unfolding part
field-add n m at xs = rw (← drop-drop n at xs) (unle-split n m (drop at xs))

unle-1 : (ys : List ℕ) → unle (take 1 ys) ≡ get_or ys 0 0
unfolding unle
unle-1 [] = refl
unle-1 (y ∷ ys) = omega arith

pub field-1 : (at : ℕ) (xs : List ℕ) → field at 1 xs ≡ get_or xs at 0
unfolding part
field-1 at xs = unle-1 (drop at xs) ∙ get_or-drop at xs 0 0 ∙ ap (λ (k : ℕ). get_or xs k 0) (add-zero at)

pub le-add : (n m v : ℕ) → le (n + m) v ≡ le n v ++ le m (v / 256 ^ n)
unfolding le
le-add zero m v = rw (zero-add, div-one)
le-add (suc n) m v = rw (suc-add, pow-succ', ← div-div-eq-div-mul) (ap (λ (l : List ℕ). v % 256 ∷ l) (le-add n m (v / 256)))

pow_pos : (n : ℕ) → 0 < 256 ^ n
pow_pos zero = lit< tt
pow_pos (suc n) = rw pow-succ' (let h : 0 < 256 ^ n = pow_pos n in omega arith)

pub le-mod : (n v : ℕ) → le n (v % 256 ^ n) ≡ le n v
unfolding le
le-mod zero v = refl
le-mod (suc n) v =
    let e : v % (256 ^ n * 256) ≡ (v / 256 % 256 ^ n) * 256 + v % 256 = mod-mul v (pow_pos n) (lit< tt) in
    let lo : v % (256 ^ n * 256) % 256 ≡ v % 256 = omega arith in
    let hi : v % (256 ^ n * 256) / 256 ≡ v / 256 % 256 ^ n = omega arith in
    rw (pow-suc, lo, hi) (ap (λ (l : List ℕ). v % 256 ∷ l) (le-mod n (v / 256)))

-- ---- bytes of one length that stand for one number are the same

pub unle-inj : (xs ys : List ℕ) → length xs ≡ length ys → ((i : ℕ) → i < length xs → get_or xs i 0 < 256) → ((i : ℕ) → i < length ys → get_or ys i 0 < 256)
    → unle xs ≡ unle ys → xs ≡ ys
unfolding unle
unle-inj [] [] l f g e = refl
unle-inj [] (y ∷ ys) l f g e = absurd (suc-ne-zero (length ys) (sym l))
unle-inj (x ∷ xs) [] l f g e = absurd (suc-ne-zero (length xs) l)
unle-inj (x ∷ xs) (y ∷ ys) l f g e =
    let a : x < 256 = f zero (zero-lt-suc _) in
    let b : y < 256 = g zero (zero-lt-suc _) in
    let p : x ≡ y = omega arith in
    let q : unle xs ≡ unle ys = omega arith in
    ap₂ ◌∷◌ p (unle-inj xs ys (suc_inj l) (λ i h. f (suc i) (suc-le-suc h)) (λ i h. g (suc i) (suc-le-suc h)) q)

-- and the number is below 256 to the number of bytes
pub unle-bound : (xs : List ℕ) → ((i : ℕ) → i < length xs → get_or xs i 0 < 256) → unle xs < 256 ^ length xs
unfolding unle
unle-bound [] f = lit< tt
unle-bound (x ∷ xs) f =
    let a : x < 256 = f zero (zero-lt-suc _) in
    let b : unle xs < 256 ^ length xs = unle-bound xs (λ i h. f (suc i) (suc-le-suc h)) in
    rw pow-succ' (omega arith)
