-- The number tables that a layout tests a word against, as the crate has them. Assumes nothing.
use Rattle.std.specs.Prelude.{ℕ, Bool, false, List, [], ◌∷◌, eqb}
use Rattle.reading.specs.Utf8.{◌or◌}

-- n stands in the table
unfoldable pub known : List ℕ → ℕ → Bool
known [] n = false
known (x ∷ xs) n = eqb n x or known xs n

-- `HeaderProtocol`
unfoldable pub header_protocols : List ℕ
header_protocols =
    1  -- EthernetIso88023
    ∷ 2  -- Iso88024TokenBus
    ∷ 3  -- Iso88025TokenRing
    ∷ 4  -- Fddi
    ∷ 5  -- FrameRelay
    ∷ 6  -- X25
    ∷ 7  -- Ppp
    ∷ 8  -- Smds
    ∷ 9  -- Aal5
    ∷ 10  -- Aal5Ip
    ∷ 11  -- Ipv4
    ∷ 12  -- Ipv6
    ∷ 13  -- Mpls
    ∷ 14  -- Pos
    ∷ 15  -- Ieee80211Mac
    ∷ 16  -- Ieee80211Ampdu
    ∷ 17  -- Ieee80211Amsdu
    ∷ []
