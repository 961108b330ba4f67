mod Operating
