-- The methods that the routes take (RFC 9110, section 9).
use Rattle.std.specs.Prelude.{ℕ, List, codes}
use Rattle.book_http.specs.declared.method.Method.{Method}
use Rattle.book_http.specs.declared.method.Method.TheVariants.{Get, Post}

-- the name of a method
abbrev pub method_text : Method → List ℕ
method_text Get = codes "GET"
method_text Post = codes "POST"
