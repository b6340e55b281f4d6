-- What is read of a layout by one call, in terms of the reading. Assumes nothing.
use Rattle.std.specs.Prelude.{List, [], ◌∷◌}
use Rattle.reading.specs.Script.{Value, number, octets, part}
use Rattle.xdr.specs.Shown.{span}
use Rattle.flow_layouts.specs.declared.parts.Route.{Route}
use Rattle.flow_layouts.specs.declared.parts.Network.{Network}

abbrev pub route : Route → List Value
route r = part (span r.dst_as_path) ∷ part (span r.communities) ∷ number r.local_pref ∷ []

abbrev pub network : Network → List Value
network r = part (span r.ssid) ∷ octets r.bssid ∷ []
