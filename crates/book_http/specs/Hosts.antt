-- Whom a request is for, as its head says (RFC 9110, section 7.2). A page from elsewhere can make a name
-- of its own stand for this machine, and so read what is asked for by that name. So nothing is, but by
-- this machine's own names (the office's rule). Nor is anything that a page of another site makes a
-- browser ask, as the browser says (Fetch Metadata Request Headers, section 2.4).
use Rattle.std.specs.Prelude.{ℕ, Bool, true, not, ◌&&◌, ◌||◌, ◌==◌, nat_le, List, [], ◌∷◌, length}
use Rattle.std.specs.Prelude.{take, drop, map, codes}
use Rattle.std.specs.Char.{is_ascii_digit}
use Rattle.std.specs.List.{list_all, list_any}
use Rattle.httparse.specs.Grammar.{RequestHead}
use Rattle.httparse.specs.Spans.{name_and_value}
use Rattle.book_http.specs.Framing.{is_field_named}

-- a port after a name, or none: a colon, and digits, if any
abbrev pub is_port : List ℕ → Bool
is_port [] = true
is_port (b ∷ digits) = b == 58 && list_all is_ascii_digit digits

-- the host is this name, in any case, with a port or without one
abbrev pub is_host_named : List ℕ → List ℕ → Bool
is_host_named name host =
    (nat_le (length name) (length host) && is_field_named name (take (length name) host))
    && is_port (drop (length name) host)

-- the host is this machine
unfoldable pub is_local : List ℕ → Bool
is_local host =
    (is_host_named (codes "127.0.0.1") host || is_host_named (codes "localhost") host)
    || is_host_named (codes "[::1]") host

-- a field gives another host; a field is its name and its value
abbrev pub is_other_host : List ℕ × List ℕ → Bool
is_other_host field = is_field_named (codes "host") field.0 && not (is_local field.1)

-- it says that a page of another site makes a browser ask
abbrev pub is_other_site : List ℕ × List ℕ → Bool
is_other_site field =
    is_field_named (codes "sec-fetch-site") field.0 && is_field_named (codes "cross-site") field.1

abbrev pub is_foreign_field : List ℕ × List ℕ → Bool
is_foreign_field field = is_other_host field || is_other_site field

unfoldable pub has_foreign_field : List (List ℕ × List ℕ) → Bool
has_foreign_field fields = list_any is_foreign_field fields

-- a head is for another host, or from another site, by one of its fields
abbrev pub is_foreign : RequestHead → Bool
is_foreign h = has_foreign_field (map name_and_value h.fields)
