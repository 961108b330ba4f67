-- How a connection's mail grows with the journal.
use Rattle.std.specs.Prelude.{◌≡◌, false, List, ◌++◌, length, drop}
use Rattle.std.specs.List.{list_any}
use Rattle.login_base.specs.declared.ids.ConnId.{ConnId}
use Rattle.login_model.specs.declared.mark.Entry.{Entry}
use Rattle.wire_out.specs.Mail.{bytes_of, connects, mail, wire}
use Rattle.wire_out.specs.Places.{IsPlaceIn, is_open, place_of}

-- the mail by a journal begins the mail by each journal that goes on from it
abbrev pub MailGoesOn : Type 0
MailGoesOn = (c : ConnId) (J more : List Entry) → mail c (J ++ more) ≡ mail c J ++ drop (length (mail c J)) (mail c (J ++ more))

-- and so do its bytes: what is due behind it is the rest
abbrev pub WireGoesOn : Type 0
WireGoesOn = (c : ConnId) (J more : List Entry) → wire c (J ++ more) ≡ wire c J ++ bytes_of (drop (length (mail c J)) (mail c (J ++ more)))

-- the place by a journal is one in each journal that goes on from it
abbrev pub PlaceGoesOn : Type 0
PlaceGoesOn = (c : ConnId) (J more : List Entry) → IsPlaceIn (place_of c J) (J ++ more)

-- behind entries in which a connection is not connected it has no mail of entries that do not connect it
abbrev pub NoMailApart : Type 0
NoMailApart = (c : ConnId) (J more : List Entry) → is_open c J ≡ false → list_any (connects c) more ≡ false → mail c (J ++ more) ≡ mail c J
