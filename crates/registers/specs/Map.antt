-- 01, Registers: offsets, widths and queue sizes are those of the map.
unfoldable pub use Rattle.register_map.specs.Map.{config_at, register_at, size_of}
