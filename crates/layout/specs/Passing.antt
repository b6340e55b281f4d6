-- Fields that are passed, with nothing kept of them. Assumes nothing.
use Rattle.std.specs.Prelude.{List, [], ◌∷◌, Ok, Err}
use Rattle.reading.specs.Script.{Found, six, sixteen, long, opaque, nothing}
use Rattle.reading.specs.Cursor.{Reader, got, then}
use Rattle.reading.specs.Layout as reading
use Rattle.reading.specs.Layout.{plain, mac, addr, list, segments, words, bytes, str, protocol}
use Rattle.reading.proofs.Fields.{fields_out}
use Rattle.xdr.specs.Shown.{Passed, Read}
use Rattle.layout.specs.declared.pass.Field.{Field}
use Rattle.layout.specs.declared.pass.Field.TheVariants as a

-- the fields that are passed at once
abbrev pub fields_of : Field → List reading.Field
fields_of (a.Words n) = words n
fields_of a.Long = plain long ∷ []
fields_of a.Mac = mac ∷ []
fields_of a.Six = bytes six ∷ []
fields_of a.Sixteen = bytes sixteen ∷ []
fields_of a.Protocol = protocol ∷ []
fields_of a.Address = addr ∷ []
fields_of a.Opaque = plain opaque ∷ []
fields_of a.Text = str ∷ []
fields_of a.List = list ∷ []
fields_of a.Segments = segments ∷ []

-- a layout that is read, with nothing kept of it
abbrev pub passing : List reading.Field → Reader Found
passing l s p = then (fields_out l s p) (λ vs q. got nothing q)

-- how far was read
abbrev pub end_of : {A : Type 0} → Read A → Passed
end_of (Ok r) = Ok r.1
end_of (Err x) = Err x
