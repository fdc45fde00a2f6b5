use Rattle.std.proofs.Common.{ℕ, List, ◌++◌, ◌∙◌, ap, refl, length}
use Rattle.std.specs.Prelude.{codes}
use Rattle.view_meaning.specs.Survey.{u8_at, header_size, vlr_count, format_of, record_length, record_count, evlr_count}
use Rattle.survey_info.specs.Text.{line, field_lines}
use Rattle.survey_info.proofs.Lines.{line_more, eight}
use Rattle.survey_info.proofs.text.append_fields.Goals as goal

pub returns-clause-appended : goal.returns-clause-appended
unfolding field_lines
returns-clause-appended c =
    let b : List ℕ = c.args.survey.now in
    let f = c.header-header.ensures.fields in
    let o0 : List ℕ = c.args.out.now.items in
    let s1 = line_more (o0) o0 c.append_line.new.out.items (codes "LAS 1.") _ (u8_at b 25) refl c.append_line.ensures.appended (c.from.ensures ∙ f.minor) in
    let s2 = line_more (o0 ++ line (codes "LAS 1.") (u8_at b 25)) c.append_line.new.out.items c.append_line-2.new.out.items (codes "header ") _ (header_size b) s1 c.append_line-2.ensures.appended (c.from-2.ensures ∙ f.size) in
    let s3 = line_more (o0 ++ line (codes "LAS 1.") (u8_at b 25) ++ line (codes "header ") (header_size b)) c.append_line-2.new.out.items c.append_line-3.new.out.items (codes "format ") _ (format_of b) s2 c.append_line-3.ensures.appended (c.from-3.ensures ∙ f.format) in
    let s4 = line_more (o0 ++ line (codes "LAS 1.") (u8_at b 25) ++ line (codes "header ") (header_size b) ++ line (codes "format ") (format_of b)) c.append_line-3.new.out.items c.append_line-4.new.out.items (codes "length ") _ (record_length b) s3 c.append_line-4.ensures.appended (c.from-4.ensures ∙ f.bytes_a_record) in
    let s5 = line_more (o0 ++ line (codes "LAS 1.") (u8_at b 25) ++ line (codes "header ") (header_size b) ++ line (codes "format ") (format_of b) ++ line (codes "length ") (record_length b)) c.append_line-4.new.out.items c.append_line-5.new.out.items (codes "records ") _ (record_count b) s4 c.append_line-5.ensures.appended (f.records) in
    let s6 = line_more (o0 ++ line (codes "LAS 1.") (u8_at b 25) ++ line (codes "header ") (header_size b) ++ line (codes "format ") (format_of b) ++ line (codes "length ") (record_length b) ++ line (codes "records ") (record_count b)) c.append_line-5.new.out.items c.append_line-6.new.out.items (codes "vlrs ") _ (vlr_count b) s5 c.append_line-6.ensures.appended (c.from-5.ensures ∙ f.vlrs) in
    let s7 = line_more (o0 ++ line (codes "LAS 1.") (u8_at b 25) ++ line (codes "header ") (header_size b) ++ line (codes "format ") (format_of b) ++ line (codes "length ") (record_length b) ++ line (codes "records ") (record_count b) ++ line (codes "vlrs ") (vlr_count b)) c.append_line-6.new.out.items c.append_line-7.new.out.items (codes "evlrs ") _ (evlr_count b) s6 c.append_line-7.ensures.appended (c.from-6.ensures ∙ f.evlrs) in
    let s8 = line_more (o0 ++ line (codes "LAS 1.") (u8_at b 25) ++ line (codes "header ") (header_size b) ++ line (codes "format ") (format_of b) ++ line (codes "length ") (record_length b) ++ line (codes "records ") (record_count b) ++ line (codes "vlrs ") (vlr_count b) ++ line (codes "evlrs ") (evlr_count b)) c.append_line-7.new.out.items c.append_line-8.new.out.items (codes "bytes ") _ (length b) s7 c.append_line-8.ensures.appended (ap length c.bytes.ensures.bytes) in
    s8 ∙ eight o0 (line (codes "LAS 1.") (u8_at b 25)) (line (codes "header ") (header_size b)) (line (codes "format ") (format_of b)) (line (codes "length ") (record_length b)) (line (codes "records ") (record_count b)) (line (codes "vlrs ") (vlr_count b)) (line (codes "evlrs ") (evlr_count b)) (line (codes "bytes ") (length b))
