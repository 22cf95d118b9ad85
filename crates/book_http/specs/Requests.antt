-- What a head says that an answer rests on.
use Rattle.std.specs.Prelude.{◌≡◌, Bool, map, codes}
use Rattle.httparse.specs.Grammar.{RequestHead}
use Rattle.httparse.specs.Spans.{name_and_value}
use Rattle.book_http.specs.declared.request.Request.{Request}
use Rattle.book_http.specs.Framing as framing
use Rattle.book_http.specs.Framing.{has_field}
use Rattle.book_http.specs.Hosts.{is_foreign}

-- There is a field that gives the origin of the page that sends the request, whatever it says (RFC
-- 6454, section 7). Browsers send it with each POST.
abbrev pub has_origin : RequestHead → Bool
has_origin h = has_field (codes "origin") (map name_and_value h.fields)

-- the head says this: its method, its target, what it says of its body's length, a foreign host or
-- none, and an origin or none
pub record DescribesHead (head : RequestHead) (request : Request) : Type 0 where
  pub method_is : request.method.now ≡ head.method
  pub target_is : request.target.now ≡ head.target
  pub body_is : request.framing ≡ framing.framing head
  pub foreign_is : request.is_foreign ≡ is_foreign head
  pub origin_is : request.has_origin ≡ has_origin head
