-- What every page begins and ends with.
use Rattle.std.specs.Prelude.{ℕ, List, ◌++◌, codes}
use Rattle.page_texts.specs.Markup.{table_row}

-- The style: one column of tables, numbers at the right, light and dark as the reader has it, wide
-- tables scrolled in their own box, and on paper in black on white. A bar of the colour of index n has
-- the class `cn`: c8 is the grey that many centres share.
unfoldable pub style : List ℕ
style =
    codes ":root{color-scheme:light dark;--ink:#1d2129;--soft:#626a78;--line:#dfe3ea;--page:#fbfbfa;"
    ++ codes "--card:#fff;--link:#2257a5}\n"
    ++ codes "@media(prefers-color-scheme:dark){:root{--ink:#e8eaee;--soft:#9aa3b2;--line:#333a46;"
    ++ codes "--page:#15181d;--card:#1c2027;--link:#8ab4f0}}\n"
    ++ codes ".c0{--c:#4c78a8}.c1{--c:#e08a2e}.c2{--c:#54a24b}.c3{--c:#b279a2}.c4{--c:#d8544f}"
    ++ codes ".c5{--c:#5ea8a3}.c6{--c:#d9b53c}.c7{--c:#9d755d}.c8{--c:#8d95a3}\n"
    ++ codes "*{box-sizing:border-box}\n"
    ++ codes "body{margin:0;background:var(--page);color:var(--ink);"
    ++ codes "font:16px/1.5 system-ui,-apple-system,'Segoe UI',Roboto,sans-serif}\n"
    ++ codes "main{max-width:76rem;margin:0 auto;padding:2.5rem 1.25rem 4rem}\n"
    ++ codes "header{margin-bottom:2rem}header p{margin:0;color:var(--soft)}\n"
    ++ codes "h1{margin:.25rem 0;font-size:2.25rem;line-height:1.2;font-weight:600;"
    ++ codes "letter-spacing:-.02em}\n"
    ++ codes "a{color:var(--link);text-decoration:none}a:hover,a:focus{text-decoration:underline}\n"
    ++ codes ".scroll{overflow-x:auto;margin:1.5rem 0;padding:.25rem 1.25rem 1rem;"
    ++ codes "background:var(--card);border:1px solid var(--line);border-radius:.75rem}\n"
    ++ codes "table{width:100%;border-collapse:collapse;font-variant-numeric:tabular-nums}\n"
    ++ codes "caption{padding:.75rem 0 .5rem;text-align:left;font-size:1.125rem;font-weight:600}\n"
    ++ codes "th,td{padding:.4rem 1rem .4rem 0;border-top:1px solid var(--line);text-align:left;"
    ++ codes "white-space:nowrap}\n"
    ++ codes "thead th{border-top:0;color:var(--soft);font-size:.8125rem;font-weight:500}\n"
    ++ codes "tfoot td{border-top:2px solid var(--ink);font-weight:600}\n"
    ++ codes "tbody:empty::after{content:'None';color:var(--soft)}\n"
    ++ codes "tr>:last-child{padding-right:0}\n"
    ++ codes ".office tr>:nth-child(n+3),.statement tr>:nth-child(n+4),.adjustments tr>:nth-child(5),"
    ++ codes ".disputes tr>:nth-child(3),.bars tr>:nth-child(n+3){text-align:right}\n"
    ++ codes ".bars td:nth-child(2){width:100%}.disputes tbody th{padding-top:1rem;font-weight:500}\n"
    ++ codes "td a[href^='/record/']{display:inline-block;max-width:13ch;overflow:hidden;"
    ++ codes "text-overflow:ellipsis;vertical-align:bottom}\n"
    ++ codes "svg{display:block;width:100%;min-width:10rem;height:1rem;border-radius:.2rem;"
    ++ codes "background:var(--line)}\n"
    ++ codes "rect{fill:var(--c);shape-rendering:crispEdges}\n"
    ++ codes "ul{display:flex;flex-wrap:wrap;gap:.25rem 1.25rem;margin:-.5rem 0 2rem;padding:0;"
    ++ codes "list-style:none;color:var(--soft);font-size:.875rem}\n"
    ++ codes "li[class^=c]::before{content:'';display:inline-block;width:.75rem;height:.75rem;"
    ++ codes "margin-right:.4rem;border-radius:.2rem;background:var(--c)}\n"
    ++ codes "dl{display:flex;flex-wrap:wrap;gap:1rem 3rem;margin:0 0 1.5rem}\n"
    ++ codes "dt{color:var(--soft);font-size:.875rem}\n"
    ++ codes "dd{margin:0;font-size:1.5rem;font-variant-numeric:tabular-nums}\n"
    ++ codes "nav{display:flex;flex-wrap:wrap;gap:.5rem 1.5rem;margin-top:2rem}\n"
    ++ codes "@media print{:root{--ink:#000;--soft:#444;--line:#bbb;--page:#fff;--card:#fff;--link:#000}"
    ++ codes "body{font-size:10px}main{max-width:none;padding:0}nav{display:none}"
    ++ codes ".scroll{overflow:visible;padding:0;border:0}thead{display:table-header-group}"
    ++ codes "tr{break-inside:avoid}rect,li{print-color-adjust:exact}"
    ++ codes "td a[href^='/record/']{max-width:none}}\n"

-- what stands above the title
unfoldable pub head_start : List ℕ
head_start =
    codes "<!DOCTYPE html>\n<html lang='en'>\n<head>\n<meta charset='us-ascii'>\n"
    ++ codes "<meta name='viewport' content='width=device-width, initial-scale=1'>\n"
    ++ codes "<meta http-equiv='Content-Security-Policy' "
    ++ codes "content=\"default-src 'none'; style-src 'unsafe-inline'\">\n<title>"

-- a page under a title, up to where its own text begins
unfoldable pub page_start : List ℕ → List ℕ
page_start title =
    head_start ++ title ++ codes "</title>\n<style>\n" ++ style
    ++ codes "</style>\n</head>\n<body>\n<main>\n"

-- the end of a table without sums
unfoldable pub table_end : List ℕ
table_end = codes "</tbody>\n</table>\n</div>\n"

-- the end of a table with the row of its sums
unfoldable pub table_foot : List (List ℕ) → List ℕ
table_foot cells =
    codes "</tbody>\n<tfoot>" ++ table_row cells ++ codes "</tfoot>\n</table>\n</div>\n"
