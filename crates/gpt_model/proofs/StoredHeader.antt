-- A header by its bytes: it is the one that N, side, disk GUID and entries decide exactly when each named field stands at its place.
use mathlib.Core.Path.{◌≡◌, refl, sym, ap, ◌∙◌}
use mathlib.Core.Logic.{◌↔◌}
use mathlib.Core.List.{List, [], ◌∷◌}
use Prim.Native.Nat.{ℕ, ◌+◌, ◌≤◌}
use native.Mathlib.Omega.{arith}
use lib.ListN.{length}
use Rattle.octets.specs.Tests.{◌and◌}
use Rattle.octets.specs.Bytes.{le, part, put, zeros}
use Rattle.octets.proofs.Numbers.{length-le}
use Rattle.octets.proofs.Parts.{length_part}
use Rattle.octets.proofs.Puts.{put_self}
use Rattle.crc_lanes.specs.Crc.{crc32}
use Rattle.gpt_model.specs.Table.{write_all}
use Rattle.gpt_model.specs.Disk.{Shape, last_usable, Side, other, header_block, entries_block, header_fields, header_with, header_crc, header}
use Rattle.gpt_model.specs.Stored.{HeaderSays}
use Rattle.gpt_model.proofs.Copies.{header-reads}
use Rattle.gpt_model.proofs.Writes.{header-over, crc-put}

-- each field, written again, changes nothing
abbrev Stand : List (ℕ × List ℕ) → List ℕ → Type 0
Stand [] x = Unit
Stand (f ∷ fs) x = (put f.0 f.1 x ≡ x) × Stand fs x

written-again : (fs : List (ℕ × List ℕ)) (x : List ℕ) → Stand fs x → write_all fs x ≡ x
written-again [] x s = refl
written-again (f ∷ fs) x s = ap (write_all fs) s.0 ∙ written-again fs x s.1

module _ (g : Shape) (n : ℕ) (side : Side) (es x : List ℕ) where
  abbrev guid : List ℕ
  guid = part 56 16 x

  abbrev Says : Type 0
  Says = HeaderSays (header_block side n) (header_block (other side) n) g.first (last_usable g n) (entries_block g side n) es x

  zero-four : zeros 4 ≡ le 4 0
  unfolding zeros le
  zero-four = refl

  -- the CRC field, from what the CRC covers
  covers : (crc : ℕ) → x ≡ header_with g n side guid es crc → crc32 (put 16 (zeros 4) x) ≡ header_crc g n side guid es
  unfolding header_crc
  covers crc e = ap crc32 (ap (λ (z : List ℕ). put 16 z x) zero-four ∙ ap (put 16 (le 4 0)) e ∙ crc-put g n side guid es crc 0)

  module _ (e : x ≡ header g n side guid es) where
    whole : x ≡ header_with g n side guid es (header_crc g n side guid es)
    unfolding header
    whole = e

    says-get : Says
    unfolding ◌and◌
    says-get =
        let c = header_crc g n side guid es in
        let w = whole in
        record {
          signature = ap (part 0 8) w ∙ header-reads g n side guid es c 0 0 8 _ (omega arith) refl refl refl (omega arith);
          revision = ap (part 8 4) w ∙ header-reads g n side guid es c 1 8 4 _ (omega arith) refl refl refl (omega arith);
          header_size = ap (part 12 4) w ∙ header-reads g n side guid es c 2 12 4 _ (omega arith) refl refl (length-le 4 _) (omega arith);
          header_crc = ap (part 16 4) w ∙ header-reads g n side guid es c 3 16 4 _ (omega arith) refl refl (length-le 4 _) (omega arith)
              ∙ ap (le 4) (sym (covers c w));
          reserved = ap (part 20 4) w ∙ header-reads g n side guid es c 4 20 4 _ (omega arith) refl refl (length-le 4 _) (omega arith) ∙ sym zero-four;
          own_block = ap (part 24 8) w ∙ header-reads g n side guid es c 5 24 8 _ (omega arith) refl refl (length-le 8 _) (omega arith);
          other_block = ap (part 32 8) w ∙ header-reads g n side guid es c 6 32 8 _ (omega arith) refl refl (length-le 8 _) (omega arith);
          first_usable = ap (part 40 8) w ∙ header-reads g n side guid es c 7 40 8 _ (omega arith) refl refl (length-le 8 _) (omega arith);
          last_usable = ap (part 48 8) w ∙ header-reads g n side guid es c 8 48 8 _ (omega arith) refl refl (length-le 8 _) (omega arith);
          entries_block = ap (part 72 8) w ∙ header-reads g n side guid es c 10 72 8 _ (omega arith) refl refl (length-le 8 _) (omega arith);
          entry_count = ap (part 80 4) w ∙ header-reads g n side guid es c 11 80 4 _ (omega arith) refl refl (length-le 4 _) (omega arith);
          entry_size = ap (part 84 4) w ∙ header-reads g n side guid es c 12 84 4 _ (omega arith) refl refl (length-le 4 _) (omega arith);
          entries_crc = ap (part 88 4) w ∙ header-reads g n side guid es c 13 88 4 _ (omega arith) refl refl (length-le 4 _) (omega arith);
        }

  module _ (len : length x ≡ 92) where
    -- a field that stands there already
    stays : (at k : ℕ) (v : List ℕ) → part at k x ≡ v → at + k ≤ 92 → put at v x ≡ x
    stays at k v e h = ap (λ (z : List ℕ). put at z x) (sym e) ∙ put_self x at k (omega arith)

    says-make : Says → x ≡ header g n side guid es
    unfolding header
    says-make s =
        let c = crc32 (put 16 (zeros 4) x) in
        let whole : x ≡ header_with g n side guid es c =
        sym (written-again (header_fields g n side guid es c) x (
          stays 0 8 _ s.signature (omega arith),
          (
            stays 8 4 _ s.revision (omega arith),
            (
              stays 12 4 _ s.header_size (omega arith),
              (
                stays 16 4 _ s.header_crc (omega arith),
                (
                  stays 20 4 _ (s.reserved ∙ zero-four) (omega arith),
                  (
                    stays 24 8 _ s.own_block (omega arith),
                    (
                      stays 32 8 _ s.other_block (omega arith),
                      (
                        stays 40 8 _ s.first_usable (omega arith),
                        (
                          stays 48 8 _ s.last_usable (omega arith),
                          (
                            put_self x 56 16 (omega arith),
                            (
                              stays 72 8 _ s.entries_block (omega arith),
                              (
                                stays 80 4 _ s.entry_count (omega arith),
                                (
                                  stays 84 4 _ s.entry_size (omega arith),
                                  (stays 88 4 _ s.entries_crc (omega arith), tt),
                                ),
                              ),
                            ),
                          ),
                        ),
                      ),
                    ),
                  ),
                ),
              ),
            ),
          ),
        ))
        ∙ header-over g n side guid es (length_part x 56 16 (omega arith)) c x len in
        whole ∙ ap (header_with g n side guid es) (covers c whole)

    pub says-iff : (x ≡ header g n side guid es) ↔ Says
    says-iff = (says-get, says-make)
