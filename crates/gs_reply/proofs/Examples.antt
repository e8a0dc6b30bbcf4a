-- Examples of replies (RFC 9112; RFC 9110, section 15), by computation: the phrase of each status that is served, and
-- whole texts.
use Rattle.std.proofs.Common.{◌≡◌, ℕ, List, [], ◌++◌, true, false, refl}
use Rattle.std.specs.Prelude.{codes, Some, None}
use Rattle.std.specs.Fmt.{digits}
use Rattle.gs_names.specs.declared.media.ReplyType.TheVariants.{NTriples, Turtle, NQuads}
use Rattle.gs_verdict.specs.declared.methods.Allow.TheVariants.{OfGraphs, OfStore}
use Rattle.gs_reply.specs.Notices.{Nothing, Allows, Made}
use Rattle.gs_model.specs.Ascii.{crlf}
use Rattle.gs_model.specs.Terms.{numeral}
use Rattle.gs_reply.specs.Replies.{phrase_of, status_line, field_line, type_line, chunked_line}
use Rattle.gs_reply.specs.Replies.{reply_text, continue_text, lines_head, chunk, last_chunk}

phrase_100 : phrase_of 100 ≡ codes "Continue"
unfolding phrase_of
phrase_100 = refl

phrase_200 : phrase_of 200 ≡ codes "OK"
unfolding phrase_of
phrase_200 = refl

phrase_201 : phrase_of 201 ≡ codes "Created"
unfolding phrase_of
phrase_201 = refl

phrase_204 : phrase_of 204 ≡ codes "No Content"
unfolding phrase_of
phrase_204 = refl

phrase_400 : phrase_of 400 ≡ codes "Bad Request"
unfolding phrase_of
phrase_400 = refl

phrase_404 : phrase_of 404 ≡ codes "Not Found"
unfolding phrase_of
phrase_404 = refl

phrase_405 : phrase_of 405 ≡ codes "Method Not Allowed"
unfolding phrase_of
phrase_405 = refl

phrase_406 : phrase_of 406 ≡ codes "Not Acceptable"
unfolding phrase_of
phrase_406 = refl

phrase_412 : phrase_of 412 ≡ codes "Precondition Failed"
unfolding phrase_of
phrase_412 = refl

phrase_413 : phrase_of 413 ≡ codes "Payload Too Large"
unfolding phrase_of
phrase_413 = refl

phrase_415 : phrase_of 415 ≡ codes "Unsupported Media Type"
unfolding phrase_of
phrase_415 = refl

phrase_422 : phrase_of 422 ≡ codes "Unprocessable Entity"
unfolding phrase_of
phrase_422 = refl

phrase_431 : phrase_of 431 ≡ codes "Request Header Fields Too Large"
unfolding phrase_of
phrase_431 = refl

phrase_501 : phrase_of 501 ≡ codes "Not Implemented"
unfolding phrase_of
phrase_501 = refl

phrase_503 : phrase_of 503 ≡ codes "Service Unavailable"
unfolding phrase_of
phrase_503 = refl

phrase_505 : phrase_of 505 ≡ codes "HTTP Version Not Supported"
unfolding phrase_of
phrase_505 = refl

phrase_507 : phrase_of 507 ≡ codes "Insufficient Storage"
unfolding phrase_of
phrase_507 = refl

-- a line of characters, with its end
line : List ℕ → List ℕ
line x = x ++ crlf

-- a 204 has no length
no_content : reply_text 204 Nothing None true ≡
    line (codes "HTTP/1.1 204 No Content")
    ++ line (codes "Connection: close")
    ++ line []
unfolding line reply_text status_line phrase_of field_line
no_content = refl

-- Allow stands after the length
not_allowed : reply_text 405 (Allows OfStore) None false ≡
    line (codes "HTTP/1.1 405 Method Not Allowed")
    ++ line (codes "Content-Length: 0")
    ++ line (codes "Allow: GET, HEAD, POST")
    ++ line []
unfolding line reply_text status_line phrase_of field_line
not_allowed = refl

not_allowed_closed : reply_text 405 (Allows OfGraphs) None true ≡
    line (codes "HTTP/1.1 405 Method Not Allowed")
    ++ line (codes "Content-Length: 0")
    ++ line (codes "Allow: GET, HEAD, PUT, POST, DELETE, PATCH")
    ++ line (codes "Connection: close")
    ++ line []
unfolding line reply_text status_line phrase_of field_line
not_allowed_closed = refl

-- the number of the commit stands after the name
created : reply_text 201 (Made (codes "http://h/g")) (Some 10) false ≡
    line (codes "HTTP/1.1 201 Created")
    ++ line (codes "Content-Length: 0")
    ++ line (codes "Location: http://h/g")
    ++ line (codes "Store-Commit: 10")
    ++ line []
unfolding line reply_text status_line phrase_of field_line numeral
created = refl

-- a write that came too late, and the number of the last write
late : reply_text 412 Nothing (Some 0) true ≡
    line (codes "HTTP/1.1 412 Precondition Failed")
    ++ line (codes "Content-Length: 0")
    ++ line (codes "Store-Commit: 0")
    ++ line (codes "Connection: close")
    ++ line []
unfolding line reply_text status_line phrase_of field_line numeral
late = refl

-- 99 is no status
no_status : reply_text 99 Nothing None true ≡
    line (codes "HTTP/1.1 500 Internal Server Error")
    ++ line (codes "Content-Length: 0")
    ++ line (codes "Connection: close")
    ++ line []
unfolding line reply_text status_line phrase_of field_line
no_status = refl

continue : continue_text ≡
    line (codes "HTTP/1.1 100 Continue")
    ++ line []
unfolding line continue_text status_line phrase_of
continue = refl

head : lines_head NTriples 7 false ≡
    line (codes "HTTP/1.1 200 OK")
    ++ line (codes "Content-Type: application/n-triples")
    ++ line (codes "Transfer-Encoding: chunked")
    ++ line (codes "Store-Commit: 7")
    ++ line []
unfolding line lines_head type_line chunked_line status_line phrase_of field_line numeral
head = refl

head_closed : lines_head Turtle 305 true ≡
    line (codes "HTTP/1.1 200 OK")
    ++ line (codes "Content-Type: text/turtle")
    ++ line (codes "Transfer-Encoding: chunked")
    ++ line (codes "Store-Commit: 305")
    ++ line (codes "Connection: close")
    ++ line []
unfolding line lines_head type_line chunked_line status_line phrase_of field_line numeral
head_closed = refl

head_quads : lines_head NQuads 1024 false ≡
    line (codes "HTTP/1.1 200 OK")
    ++ line (codes "Content-Type: application/n-quads")
    ++ line (codes "Transfer-Encoding: chunked")
    ++ line (codes "Store-Commit: 1024")
    ++ line []
unfolding line lines_head type_line chunked_line status_line phrase_of field_line numeral
head_quads = refl

-- 26 is `1a`: letters are small, and no nought stands before
size : digits 16 false 26 ≡ codes "1a"
unfolding digits
size = refl

one_chunk : chunk (codes "abcdefghij") ≡ line (codes "a") ++ line (codes "abcdefghij")
unfolding chunk digits line
one_chunk = refl

no_chunk : chunk [] ≡ []
unfolding chunk
no_chunk = refl

end : last_chunk ≡ line (codes "0") ++ line []
unfolding last_chunk line
end = refl
