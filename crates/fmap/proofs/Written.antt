-- What an image holds after a map was written into it.
use mathlib.Core.List.{List}
use Prim.Native.Nat.{ℕ}
use lib.ListN.{length}
use Rattle.octets.proofs.Puts.{length-put, get_or-put-out}
use Rattle.fmap_rules.specs.Written.{map_bytes}
use Rattle.fmap_rules.proofs.Written.{bytes-length, written-is-good, written-header}
use Rattle.fmap.specs.Claims.{MapHolds}
use Rattle.fmap.proofs.Claims.{written-is-found}

pub map-holds : MapHolds
map-holds image at name base minor areas w b low high =
    let bytes : List ℕ = map_bytes (length image) name base minor areas in
    let g = written-is-good image at name base minor areas w in
    let l = bytes-length image at name base minor areas w in
    record {
      same_length = length-put at bytes image;
      there = g.good;
      lists = g.same_areas;
      headed = written-header image at name base minor areas w b;
      elsewhere = λ k o. get_or-put-out bytes image at k (rw l o);
      found = written-is-found image at name base minor areas w low high;
    }
